-- What a line makes of the state and the tables, wherever it stands, and what the end of the input does (SCOPE, "Program, order lines and din
-- lines"). The line is given without its LF. Where the answer is not 0, it is refused at line `next.lines`, and a bad line of the trace at its
-- column `next.column`. Assumes nothing.
use Rattle.std.specs.Prelude.{ℕ, ◌+◌, min, ◌≡◌, Bool, cond, List, eqb, leb}
use Rattle.lists.specs.Runs.{after}
use Rattle.lists.specs.Tests.{settled}
use Rattle.units.specs.Refusals.{done, bad_order_line, too_long, too_many_lines}
use Rattle.taking.specs.World.{World}
use Rattle.taking.specs.Taking.{take_answer, taken}
use Rattle.lines.specs.Bytes.{past_longest}
use Rattle.lines.specs.OrderLine.{order_line_of}
use Rattle.reading.specs.declared.Reading.{Reading}
use Rattle.reading.specs.Reading.{Step, trace_next, at_line, with_tally}
use Rattle.reading.specs.Reading.{Desk, with_reading, world_of, with_world, Outcome, outcome, answered, stays}
use Rattle.reading.specs.Head.{order_step}
use Rattle.reading.specs.Meaning.{Meaning, gives, skips, fails, meaning_of, tallied, column_or, given_by}

-- ---- a line of the trace

-- the answer, by what the line comes to
abbrev pub line_answer : World → Meaning → ℕ
line_answer w (gives g) = take_answer w g
line_answer w skips = done
line_answer w (fails bad) = bad.number

-- done: what it gives is taken, and the line is tallied
abbrev pub followed : Desk → Meaning → Desk
followed d m =
    let new = with_world (after taken (world_of d) (given_by m)) d in
    with_reading (with_tally (tallied m d.reading.tally) new.reading) new

-- refused: nothing changes, and of a bad line the column is told
abbrev pub refused_at : Desk → Meaning → Desk
refused_at d m = with_reading (at_line d.reading.lines (column_or d.reading.column m) d.reading) d

abbrev pub trace_step : Desk → Meaning → Outcome
trace_step d m = let n = line_answer (world_of d) m in outcome n (settled n (followed d m) (refused_at d m))

-- ---- any line

abbrev pub in_trace : Reading → Bool
in_trace v = eqb v.stage trace_next

-- the lines that an input may have
abbrev pub lines_most : ℕ
lines_most = 4294967295

-- 26 is decided before the line is read
abbrev pub is_too_many : Reading → Bool
is_too_many v = leb lines_most v.lines

-- one line more is read
abbrev pub counted : Desk → Desk
counted d = with_reading (at_line (d.reading.lines + 1) 0 d.reading) d

-- THE STEP: the line counts as read, whatever it says
abbrev pub step_of : Desk → List ℕ → Outcome
step_of d line =
    cond (is_too_many d.reading) (stays (answered too_many_lines (at_line (lines_most + 1) 0 d.reading)) d)
    (cond (in_trace d.reading) (trace_step (counted d) (meaning_of d.reading.head.kinds line)) (order_step (counted d) (order_line_of line)))

-- a line longer than the line buffer, however long it is: 10 before the begin line, and after it 17 at the first byte too many
abbrev pub long_line : Reading → Step
long_line v =
    cond (is_too_many v) (answered too_many_lines (at_line (lines_most + 1) 0 v))
    (cond (in_trace v) (answered too_long (at_line (v.lines + 1) past_longest v)) (answered bad_order_line (at_line (v.lines + 1) 0 v)))

-- the end of the input: a missing begin line is refused one past the last line
abbrev pub ended : Reading → Step
ended v = cond (in_trace v) (answered done v) (answered bad_order_line (at_line (min (v.lines + 1) (lines_most + 1)) 0 v))

-- THE CONTRACT of `step`
abbrev pub Steps : Desk → List ℕ → ℕ → Desk → Type 0
Steps d line n d' = outcome n d' ≡ step_of d line
