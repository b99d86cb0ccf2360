-- Tests in a row: the first that holds, whether some holds, whether all do.
-- Assumes nothing.
use Rattle.std.specs.Prelude.{ℕ, zero, suc, ◌≤◌, Bool, true, false, cond, ◌&&◌, ◌||◌, List, [], ◌∷◌, eqb, leb}

-- the number beside the first test that holds, or 0 where none does
abbrev pub first_of : List (Bool × ℕ) → ℕ
first_of [] = 0
first_of (c ∷ cs) = cond c.0 c.1 (first_of cs)

-- the answer decides what is left: the new where it is 0, else what was
abbrev pub settled : {A : Type 0} → ℕ → A → A → A
settled n new old = cond (eqb n 0) new old

-- some number below n passes
unfoldable pub any_to : ℕ → (ℕ → Bool) → Bool
any_to zero p = false
any_to (suc n) p = any_to n p || p n

-- in each pair the first is at most the second: as a test, and as a fact
unfoldable pub all_le : List (ℕ × ℕ) → Bool
all_le [] = true
all_le (p ∷ l) = leb p.0 p.1 && all_le l

abbrev pub All≤ : List (ℕ × ℕ) → Type 0
All≤ [] = Unit {0}
All≤ (p ∷ l) = (p.0 ≤ p.1) × All≤ l
