-- WHERE A LINE IS WRONG (SCOPE, "Program, order lines and din lines"): the column of the first byte that cannot stand there, or one past the end,
-- where a form of lines is given by its good ones. Columns are bytes, counted from 1. Assumes nothing.
use Rattle.std.specs.Prelude.{ℕ, ◌+◌, ◌-◌, ◌≤◌, ◌≡◌, Bool, true, false, List, ◌++◌, length, take}

-- these bytes can be continued to a good line
abbrev pub CanGoOn : (List ℕ → Bool) → List ℕ → Type 0
CanGoOn is_good bytes = (more : List ℕ) × (is_good (bytes ++ more) ≡ true)

pub record FirstWrong (is_good : List ℕ → Bool) (line : List ℕ) (column : ℕ) : Type 0 where
  -- a column of the line, or one past its end
  pub first : 1 ≤ column
  pub last : column ≤ length line + 1
  -- the bytes before it can be continued to a good line
  pub before : CanGoOn is_good (take (column - 1) line)
  -- with the byte at it they cannot
  pub byte : column ≤ length line → CanGoOn is_good (take column line) → ⊥
  -- or with the end there they are none
  pub end : column ≡ length line + 1 → is_good line ≡ false
