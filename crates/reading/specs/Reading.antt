-- What a line works on, and what it leaves: how far the input is read, by its parts, and both tables (SCOPE, "Program, order lines and din
-- lines"). What a line makes of them is in Head and Step. Assumes nothing.
use Rattle.std.specs.Prelude.{ℕ, ◌+◌, min, List, replicate}
use Rattle.order.specs.Limits.{zero_order}
use Rattle.taking.specs.declared.Opened.{Opened}
use Rattle.taking.specs.World.{World}
use Rattle.taking.specs.Opening.{fresh}
use Rattle.lines.specs.declared.Kinds.TheVariants.{All}
use Rattle.reading.specs.declared.Head.{Head}
use Rattle.reading.specs.declared.Tally.{Tally}
use Rattle.reading.specs.declared.Reading.{Reading}

-- ---- the stages: what comes next

-- the line of each number, in their order
abbrev pub bmin_next : ℕ
bmin_next = 0

abbrev pub bmax_next : ℕ
bmax_next = 1

abbrev pub smax_next : ℕ
smax_next = 2

abbrev pub ways_next : ℕ
ways_next = 3

abbrev pub room_next : ℕ
room_next = 4

abbrev pub refs_next : ℕ
refs_next = 5

-- `kinds=` or `begin=`
abbrev pub kinds_next : ℕ
kinds_next = 6

-- `begin=` alone
abbrev pub begin_next : ℕ
begin_next = 7

abbrev pub trace_next : ℕ
trace_next = 8

-- ---- how far the input is read

-- nothing read yet: absent kinds means all
abbrev pub start : Reading
start = record {
  lines = 0;
  column = 0;
  stage = bmin_next;
  head = record { numbers = replicate 6 0; kinds = All };
  tally = record { skipped = 0; flushes = 0 };
  opened = fresh zero_order;
}

-- at a line, and at a column of it, or at none of them, 0
abbrev pub at_line : ℕ → ℕ → Reading → Reading
at_line n c v = record { lines = n; column = c; stage = v.stage; head = v.head; tally = v.tally; opened = v.opened }

abbrev pub with_stage : ℕ → Reading → Reading
with_stage n v = record { lines = v.lines; column = v.column; stage = n; head = v.head; tally = v.tally; opened = v.opened }

abbrev pub with_head : Head → Reading → Reading
with_head h v = record { lines = v.lines; column = v.column; stage = v.stage; head = h; tally = v.tally; opened = v.opened }

abbrev pub with_tally : Tally → Reading → Reading
with_tally t v = record { lines = v.lines; column = v.column; stage = v.stage; head = v.head; tally = t; opened = v.opened }

abbrev pub with_opened : Opened → Reading → Reading
with_opened o v = record { lines = v.lines; column = v.column; stage = v.stage; head = v.head; tally = v.tally; opened = o }

abbrev pub with_skipped : ℕ → Tally → Tally
with_skipped n t = record { skipped = n; flushes = t.flushes }

abbrev pub with_flushes : ℕ → Tally → Tally
with_flushes n t = record { skipped = t.skipped; flushes = n }

-- one more: no input has more than 4,294,967,295 lines, so no count stops short in a run from the start
abbrev pub one_more : ℕ → ℕ
one_more n = min (n + 1) 4294967295

-- one more line skipped, and one more flush
abbrev pub one_skipped : Tally → Tally
one_skipped t = with_skipped (one_more t.skipped) t

abbrev pub one_flushed : Tally → Tally
one_flushed t = with_flushes (one_more t.flushes) t

-- ---- what a line works on

pub record Desk : Type 0 where
  pub reading : Reading
  pub stacks : List ℕ
  pub counts : List ℕ

abbrev pub desk : Reading → List ℕ → List ℕ → Desk
desk v st ct = record { reading = v; stacks = st; counts = ct }

abbrev pub with_reading : Reading → Desk → Desk
with_reading v d = desk v d.stacks d.counts

-- the world of the opened order, and the desk with another
abbrev pub world_of : Desk → World
world_of d = record { state = d.reading.opened; stacks = d.stacks; counts = d.counts }

abbrev pub with_world : World → Desk → Desk
with_world w d = desk (with_opened w.state d.reading) w.stacks w.counts

-- ---- the answer, and what is left

pub record Outcome : Type 0 where
  pub answer : ℕ
  pub left : Desk

abbrev pub outcome : ℕ → Desk → Outcome
outcome n d = record { answer = n; left = d }

-- an answer and the next state
pub record Step : Type 0 where
  pub answer : ℕ
  pub next : Reading

abbrev pub answered : ℕ → Reading → Step
answered n v = record { answer = n; next = v }

-- both tables stay
abbrev pub stays : Step → Desk → Outcome
stays s d = outcome s.answer (with_reading s.next d)
