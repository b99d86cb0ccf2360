-- The program's input (SCOPE, "Program, order lines and din lines"): a run over its lines, and what its lines say by themselves, whatever
-- the state. A line is given without its LF. Assumes nothing.
use Rattle.std.specs.Prelude.{ℕ, ◌<◌, ◌≡◌, Bool, true, false, cond, List, [], ◌∷◌, eqb, length, get_or}
use Rattle.cache.specs.Cache.{Given}
use Rattle.order.specs.declared.Order.{Order}
use Rattle.lines.specs.Bytes.{longest}
use Rattle.lines.specs.declared.Kinds.{Kinds}
use Rattle.lines.specs.declared.Kinds.TheVariants.{All}
use Rattle.lines.specs.OrderLine.{OrderLine, Bmin, Bmax, Smax, Ways, Room, Refs, Counting, Begin, Refused as BadOrder, order_line_of}
use Rattle.reading.specs.Meaning.{Meaning, meaning_of, given_in}
use Rattle.reading.specs.Reading.{Step, Desk, Outcome, outcome, stays}
use Rattle.reading.specs.Step.{step_of, long_line, ended, Steps}

-- ---- a run

-- Calls lead from d, over the lines, to the outcome: each line goes to `step`, one too long for the line buffer to `long_line`, and the end to
-- `ended`. A call is anything within its contract, and the first that is refused ends the run.
pub data Runs : Desk → List (List ℕ) → Outcome → Type 0 where
  at_end : {d : Desk} {r : Step} → r ≡ ended d.reading → Runs d [] (stays r d)
  done : {d d' : Desk} {line : List ℕ} {more : List (List ℕ)} {n : ℕ} {o : Outcome} → Steps d line n d' → n ≡ 0
      → Runs d' more o → Runs d (line ∷ more) o
  refused : {d d' : Desk} {line : List ℕ} {more : List (List ℕ)} {n : ℕ} → Steps d line n d' → (n ≡ 0 → ⊥)
      → Runs d (line ∷ more) (outcome n d')
  too_long : {d : Desk} {line : List ℕ} {more : List (List ℕ)} {r : Step} → longest < length line → r ≡ long_line d.reading
      → Runs d (line ∷ more) (stays r d)

-- what it comes to: the run stops at the first line that is refused, else at the end
unfoldable pub run_from : Desk → List (List ℕ) → Outcome
run_from d [] = stays (ended d.reading) d
run_from d (line ∷ more) = cond (eqb (step_of d line).answer 0) (run_from (step_of d line).left more) (step_of d line)

-- ---- the order's lines

abbrev pub is_begin : OrderLine → Bool
is_begin (Bmin n) = false
is_begin (Bmax n) = false
is_begin (Smax n) = false
is_begin (Ways n) = false
is_begin (Room n) = false
is_begin (Refs n) = false
is_begin (Counting kinds) = false
is_begin Begin = true
is_begin (BadOrder n) = false

-- what the lines before the first begin line read as
unfoldable pub header_of : List (List ℕ) → List OrderLine
header_of [] = []
header_of (line ∷ more) = cond (is_begin (order_line_of line)) [] (order_line_of line ∷ header_of more)

-- the lines after it
unfoldable pub trace_of : List (List ℕ) → List (List ℕ)
trace_of [] = []
trace_of (line ∷ more) = cond (is_begin (order_line_of line)) more (trace_of more)

-- the number that a line gives, or 0 where it gives none
abbrev pub number_in : OrderLine → ℕ
number_in (Bmin n) = n
number_in (Bmax n) = n
number_in (Smax n) = n
number_in (Ways n) = n
number_in (Room n) = n
number_in (Refs n) = n
number_in (Counting kinds) = 0
number_in Begin = 0
number_in (BadOrder n) = 0

-- the kinds that it gives, and absent means all
abbrev pub kinds_given : OrderLine → Kinds
kinds_given (Bmin n) = All
kinds_given (Bmax n) = All
kinds_given (Smax n) = All
kinds_given (Ways n) = All
kinds_given (Room n) = All
kinds_given (Refs n) = All
kinds_given (Counting kinds) = kinds
kinds_given Begin = All
kinds_given (BadOrder n) = All

-- the order of these lines: its numbers, one per line, and then optionally its kinds
abbrev pub order_in : List OrderLine → Order
order_in l = record {
  bmin = record { 0 = number_in (get_or l 0 Begin) };
  bmax = record { 0 = number_in (get_or l 1 Begin) };
  smax = number_in (get_or l 2 Begin);
  ways = number_in (get_or l 3 Begin);
  room = number_in (get_or l 4 Begin);
  refs = number_in (get_or l 5 Begin);
}

abbrev pub kinds_in : List OrderLine → Kinds
kinds_in l = kinds_given (get_or l 6 Begin)

-- ---- the trace

-- what each line comes to, under these kinds
unfoldable pub meant_in : Kinds → List (List ℕ) → List Meaning
meant_in kinds [] = []
meant_in kinds (line ∷ more) = meaning_of kinds line ∷ meant_in kinds more

-- of the whole input: the lines after the begin line, by the kinds of the lines before it
abbrev pub meant_of : List (List ℕ) → List Meaning
meant_of lines = meant_in (kinds_in (header_of lines)) (trace_of lines)

-- what they give, in order
abbrev pub given_of : List (List ℕ) → List Given
given_of lines = given_in (meant_of lines)
