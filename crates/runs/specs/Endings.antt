-- Where the program's input ends, told from its lines alone: the cases of SCOPE, "Refusal numbers", with no state and no table's contents.
-- Assumes nothing.
use Rattle.std.specs.Prelude.{ℕ, ◌+◌, Bool, false, cond, ◌||◌, List, [], ◌∷◌, ◌++◌, eqb, leb, length}
use Rattle.cache.specs.Cache.{Given}
use Rattle.units.specs.Refusals.{done, bad_order_line, too_many_lines}
use Rattle.order.specs.declared.Order.{Order}
use Rattle.taking.specs.World.{World}
use Rattle.taking.specs.Opening.{open_answer}
use Rattle.calls.specs.Answers.{answer_after}
use Rattle.lines.specs.OrderLine.{OrderLine, Bmin, Bmax, Smax, Ways, Room, Refs, Counting, Begin, Refused as BadOrder, order_line_of}
use Rattle.reading.specs.Meaning.{Meaning, gives, skips, fails, column_or, given_by}
use Rattle.reading.specs.Reading.{Outcome}
use Rattle.reading.specs.Step.{lines_most}
use Rattle.runs.specs.Input.{is_begin, order_in, kinds_in, meant_in}

-- the answer, its line (that of the refusal, or the last where the answer is 0), and the column of a bad line of the trace, or else 0
pub record Ending : Type 0 where
  pub answer : ℕ
  pub line : ℕ
  pub column : ℕ

abbrev pub ends_at : ℕ → ℕ → ℕ → Ending
ends_at answer line column = record { answer = answer; line = line; column = column }

-- that of an outcome
abbrev pub ending_of : Outcome → Ending
ending_of o = ends_at o.answer o.left.reading.lines o.left.reading.column

-- the numbers of the program, and 0: over its tables, 3 never comes
abbrev pub listed : List ℕ
listed = 0 ∷ 1 ∷ 2 ∷ 5 ∷ 6 ∷ 10 ∷ 14 ∷ 15 ∷ 16 ∷ 17 ∷ 26 ∷ []

-- ---- in the trace

-- a line of the trace, by what it comes to
abbrev pub trace_answer : Order → List Given → Meaning → ℕ
trace_answer o past (gives g) = answer_after o past g
trace_answer o past skips = done
trace_answer o past (fails bad) = bad.number

-- the line after n others: 26 is decided before it is read
abbrev pub line_ending : Order → List Given → ℕ → Meaning → Ending
line_ending o past n m = cond (leb lines_most n) (ends_at too_many_lines (n + 1) 0) (ends_at (trace_answer o past m) (n + 1) (column_or 0 m))

-- the lines that are left, after n lines of the input that gave `past`
unfoldable pub trace_ending : Order → List Given → ℕ → List Meaning → Ending
trace_ending o past n [] = ends_at done n 0
trace_ending o past n (m ∷ more) =
    cond (eqb (line_ending o past n m).answer 0) (trace_ending o (past ++ given_by m) (n + 1) more) (line_ending o past n m)

-- ---- before it

-- a line has its place, after so many others; `begin=` has two, since `kinds=` is optional
abbrev pub is_in_place : ℕ → OrderLine → Bool
is_in_place n (Bmin value) = eqb n 0
is_in_place n (Bmax value) = eqb n 1
is_in_place n (Smax value) = eqb n 2
is_in_place n (Ways value) = eqb n 3
is_in_place n (Room value) = eqb n 4
is_in_place n (Refs value) = eqb n 5
is_in_place n (Counting kinds) = eqb n 6
is_in_place n Begin = eqb n 6 || eqb n 7
is_in_place n (BadOrder answer) = false

-- one more line, after those that read as `said`: 10 where it is malformed or out of place; limits and tables are checked at the begin line
abbrev pub order_answer : World → List OrderLine → OrderLine → ℕ
order_answer w said l = cond (is_in_place (length said) l) (cond (is_begin l) (open_answer (order_in said) w) done) bad_order_line

-- the lines that are left, after those that read as `said`: a missing begin line is refused one past the last
unfoldable pub input_ending : World → List OrderLine → List (List ℕ) → Ending
input_ending w said [] = ends_at bad_order_line (length said + 1) 0
input_ending w said (line ∷ more) =
    cond (eqb (order_answer w said (order_line_of line)) 0)
    (cond (is_begin (order_line_of line))
    (trace_ending (order_in said) [] (length said + 1) (meant_in (kinds_in said) more))
    (input_ending w (said ++ (order_line_of line ∷ [])) more))
    (ends_at (order_answer w said (order_line_of line)) (length said + 1) 0)
