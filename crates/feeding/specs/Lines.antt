-- The lines of an input's bytes (SCOPE, "Program, order lines and din lines"): LF ends a line, and the last may lack it. Each is given without it.
-- Assumes nothing.
use Rattle.std.specs.Prelude.{ℕ, cond, List, [], ◌∷◌, ◌++◌, eqb}
use Prim.Native.Char.{code}

abbrev pub lf : ℕ
lf = code "\n"

-- the first line has that byte before its own; with no line there is one of that byte alone
abbrev pub beginning : ℕ → List (List ℕ) → List (List ℕ)
beginning b [] = (b ∷ []) ∷ []
beginning b (line ∷ more) = (b ∷ line) ∷ more

-- cut at each LF: nothing after the last LF is no line
unfoldable pub lines_of : List ℕ → List (List ℕ)
lines_of [] = []
lines_of (b ∷ more) = cond (eqb b lf) ([] ∷ lines_of more) (beginning b (lines_of more))

-- the slices of an input, one after the other
unfoldable pub joined : List (List ℕ) → List ℕ
joined [] = []
joined (s ∷ more) = s ++ joined more
