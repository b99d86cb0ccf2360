-- What a line of the trace comes to under the kinds that the order counts, and what such lines come to together: what they give, in order,
-- and their tally (SCOPE, "Program, order lines and din lines"). Assumes nothing.
use Rattle.std.specs.Prelude.{ℕ, cond, List, [], ◌∷◌, ◌++◌}
use Rattle.lists.specs.Sums.{total}
use Rattle.cache.specs.Cache.{Given, ref, flush, flushed}
use Rattle.lines.specs.declared.Kinds.{Kinds}
use Rattle.lines.specs.TraceLine.{BadLine, TraceLine, Ref, Escape, Refused as BadTrace, trace_line_of}
use Rattle.lines.specs.OrderLine.{counts_kind}
use Rattle.reading.specs.declared.Tally.{Tally}
use Rattle.reading.specs.Reading.{one_skipped, one_flushed}

-- something is given, the line is skipped, or it is bad: refused with a number, at a column
pub data Meaning : Type 0 where
  gives : Given → Meaning
  skips : Meaning
  fails : BadLine → Meaning

-- a reference of a kind that is counted is given, and any other skipped; an escape gives a flush, whatever is counted
abbrev pub meant : Kinds → TraceLine → Meaning
meant kinds (Ref kind a) = cond (counts_kind kinds kind) (gives (ref a.0)) skips
meant kinds Escape = gives flush
meant kinds (BadTrace bad) = fails bad

abbrev pub meaning_of : Kinds → List ℕ → Meaning
meaning_of kinds line = meant kinds (trace_line_of line)

-- one line more in the tally
abbrev pub tallied : Meaning → Tally → Tally
tallied (gives (ref a)) t = t
tallied (gives flush) t = one_flushed t
tallied skips t = one_skipped t
tallied (fails bad) t = t

-- the column of a bad line, or else c
abbrev pub column_or : ℕ → Meaning → ℕ
column_or c (gives g) = c
column_or c skips = c
column_or c (fails bad) = bad.column

-- ---- lines together

abbrev pub given_by : Meaning → List Given
given_by (gives g) = g ∷ []
given_by skips = []
given_by (fails bad) = []

-- what they give, in order
unfoldable pub given_in : List Meaning → List Given
given_in [] = []
given_in (m ∷ more) = given_by m ++ given_in more

abbrev pub skipped_by : Meaning → ℕ
skipped_by (gives g) = 0
skipped_by skips = 1
skipped_by (fails bad) = 0

-- how many of them are skipped, and how many flush
abbrev pub tallied_in : List Meaning → Tally
tallied_in l = record { skipped = total skipped_by l; flushes = total flushed (given_in l) }
