-- THE PROGRAM, from the bytes that it reads to the bytes that it prints, with no state, no stack and no table's contents: the lines of the
-- input alone say where it ends (crates/runs/specs/Endings.antt), and each number printed is that of one cache by itself. Assumes nothing.
use Rattle.std.specs.Prelude.{ℕ, cond, List, [], ◌++◌, eqb}
use Rattle.lists.specs.Sums.{total}
use Rattle.cache.specs.Cache.{Given, referred, misses_over}
use Rattle.order.specs.declared.Cache.{Cache}
use Rattle.taking.specs.Opening.{unopened}
use Rattle.reading.specs.Meaning.{tallied_in}
use Rattle.runs.specs.Input.{header_of, order_in, meant_of, given_of}
use Rattle.runs.specs.Endings.{Ending, input_ending}
use Rattle.feeding.specs.Lines.{lines_of}
use Rattle.printing.specs.Grid.{grid_of}
use Rattle.printing.specs.Printed.{head_lines, cache_line, refusal_line, lines_by}

-- the line of one cache: its misses over what is given
abbrev pub line_over : List Given → Cache → List ℕ
line_over given c = cache_line c.b.0 c.s c.w (misses_over c.b.0 c.s c.w given)

abbrev pub table_over : List (List ℕ) → List ℕ
table_over lines =
    head_lines (total referred (given_of lines)) (tallied_in (meant_of lines))
    ++ lines_by (line_over (given_of lines)) (grid_of (order_in (header_of lines)))

abbrev pub refusal_for : Ending → List ℕ
refusal_for e = refusal_line e.answer e.line e.column

abbrev pub ending_over : Ending → List (List ℕ) → List ℕ
ending_over e lines = cond (eqb e.answer 0) (table_over lines) (refusal_for e)

-- what the program prints for these bytes, with tables of these lengths
abbrev pub printed_for : List ℕ → List ℕ → List ℕ → List ℕ
printed_for st ct bytes = ending_over (input_ending (unopened st ct) [] (lines_of bytes)) (lines_of bytes)
