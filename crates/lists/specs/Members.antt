-- What is in a list of numbers, and where. Where a number stands several times, the first one counts.
-- Assumes nothing.
use Rattle.std.specs.Prelude.{ℕ, ◌≡◌, Bool, false, cond, ◌||◌, List, [], ◌∷◌, eqb}

-- x is in the list
abbrev pub mem : ℕ → List ℕ → Bool
mem x [] = false
mem x (y ∷ ys) = eqb x y || mem x ys

-- the list less its first x
abbrev pub remove : ℕ → List ℕ → List ℕ
remove x [] = []
remove x (y ∷ ys) = cond (eqb x y) ys (y ∷ remove x ys)

-- what stands before the first x, or the whole list where there is none
abbrev pub above : ℕ → List ℕ → List ℕ
above x [] = []
above x (y ∷ ys) = cond (eqb x y) [] (y ∷ above x ys)

-- those that pass a test, in their order
abbrev pub keep : (ℕ → Bool) → List ℕ → List ℕ
keep p [] = []
keep p (y ∷ ys) = cond (p y) (y ∷ keep p ys) (keep p ys)

-- no number stands in the list twice
abbrev pub Distinct : List ℕ → Type 0
Distinct [] = Unit {0}
Distinct (x ∷ l) = (mem x l ≡ false) × Distinct l
