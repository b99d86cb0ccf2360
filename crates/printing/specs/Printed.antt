-- What the program prints, as bytes (SCOPE, "Program, order lines and din lines"). Assumes nothing.
use Rattle.std.specs.Prelude.{ℕ, zero, suc, ◌+◌, ◌/◌, ◌%◌, ◌^◌, cond, List, [], ◌∷◌, ◌++◌, eqb, ltb}
use Prim.Native.Char.{code}
use Rattle.units.specs.Refusals.{has_column}
use Rattle.lines.specs.Bytes.{text}
use Rattle.order.specs.declared.Cache.{Cache}
use Rattle.taking.specs.declared.Opened.{Opened}
use Rattle.taking.specs.Questions.{Counted, misses_of}
use Rattle.reading.specs.declared.Reading.{Reading}
use Rattle.reading.specs.declared.Tally.{Tally}
use Rattle.printing.specs.Grid.{grid_of}

-- ---- a number

-- the least of k, k + 1, .. digits that hold n; `more` bounds the search
unfoldable pub places_from : ℕ → ℕ → ℕ → ℕ
places_from zero k n = k
places_from (suc more) k n = cond (ltb n (10 ^ k)) k (places_from more (suc k) n)

-- the last k decimal digits of n, the most significant first
unfoldable pub digits_of : ℕ → ℕ → List ℕ
digits_of zero n = []
digits_of (suc k) n = digits_of k (n / 10) ++ ((code "0" + n % 10) ∷ [])

-- in decimal without leading zeros: 1 to 20 digits, as a number of 64 bits has
abbrev pub decimal_of : ℕ → List ℕ
decimal_of n = digits_of (places_from 19 1 n) n

-- ---- a line: fields NAME=NUMBER with a space between, and LF

abbrev pub Field : Type 0
Field = List ℕ × ℕ

abbrev pub field_of : Field → List ℕ
field_of f = f.0 ++ (code "=" ∷ decimal_of f.1)

unfoldable pub fields_after : List Field → List ℕ
fields_after [] = code "\n" ∷ []
fields_after (f ∷ more) = code " " ∷ (field_of f ++ fields_after more)

abbrev pub line_of : Field → List Field → List ℕ
line_of f more = field_of f ++ fields_after more

-- ---- the output

abbrev pub head_lines : ℕ → Tally → List ℕ
head_lines refs tally =
    line_of (text "edition", 2) []
    ++ (line_of (text "refs", refs) [] ++ (line_of (text "skipped", tally.skipped) [] ++ line_of (text "flushes", tally.flushes) []))

abbrev pub cache_line : ℕ → ℕ → ℕ → ℕ → List ℕ
cache_line b s w misses = line_of (text "b", b) ((text "s", s) ∷ (text "w", w) ∷ (text "misses", misses) ∷ [])

-- the column is told with the numbers of a bad trace line alone
abbrev pub refusal_line : ℕ → ℕ → ℕ → List ℕ
refusal_line answer line column =
    line_of (text "refused", answer) ((text "line", line) ∷ cond (has_column answer) ((text "column", column) ∷ []) [])

-- the line of one cache, by what the question gives: nothing is invented beside a refusal
abbrev pub line_by : Cache → Counted → List ℕ
line_by c q = cond (eqb q.answer 0) (cache_line c.b.0 c.s c.w q.misses) []

abbrev pub line_at : Opened → List ℕ → Cache → List ℕ
line_at v ct c = line_by c (misses_of v ct c.b.0 c.s c.w)

-- the lines of caches, one after the other
unfoldable pub lines_by : (Cache → List ℕ) → List Cache → List ℕ
lines_by line [] = []
lines_by line (c ∷ more) = line c ++ lines_by line more

abbrev pub table_of : Opened → Tally → List ℕ → List ℕ
table_of v tally ct = head_lines v.taken tally ++ lines_by (line_at v ct) (grid_of v.order)

-- THE OUTPUT: the table, or the refusal alone
abbrev pub output_of : ℕ → Reading → List ℕ → List ℕ
output_of answer v ct = cond (eqb answer 0) (table_of v.opened v.tally ct) (refusal_line answer v.lines v.column)
