-- What the private functions of the crate promise. Assumes nothing.
use Rattle.std.specs.Prelude.{ℕ, ◌≡◌, ◌≤◌, ◌<◌, List, ◌++◌, length, take, drop, get_or}
use Rattle.feeding.specs.declared.Feeding.{Feeding}
use Rattle.feeding.specs.Lines.{lf}
use Rattle.feeding.specs.Machine.{line_refused, line_ends}
use Rattle.feeding.specs.Feeding.{by_lines, held_by}

-- the first n bytes, none of them LF, are copied to the front of the line; then the bytes end, or an LF stands there, or the line is full
pub record Copied (bytes line : List ℕ) (n : ℕ) (line' : List ℕ) : Type 0 where
  pub inside : n ≤ length bytes
  pub fits : n ≤ length line
  pub copy : line' ≡ take n bytes ++ drop n line
  pub before : (i : ℕ) → i < n → get_or bytes i 0 ≡ lf → ⊥
  pub stops : n < length bytes → n < length line → get_or bytes n 0 ≡ lf

-- the line that has begun goes to the reader
abbrev pub EndsLine : Feeding → List ℕ → List ℕ → Feeding → List ℕ → List ℕ → Type 0
EndsLine f st ct r st' ct' = held_by r st' ct' ≡ line_ends by_lines (held_by f st ct)

-- it is refused before it ends; no table is lent
abbrev pub RefusesLine : Feeding → Feeding → Type 0
RefusesLine f r = (st ct : List ℕ) → held_by r st ct ≡ line_refused by_lines (held_by f st ct)
