-- Laws of `total` and `sum_to`.
-- Assumes nothing.
use Prim.Native.Nat.{ℕ, zero, suc, ◌+◌, ◌≤◌, ◌<◌}
use mathlib.Core.Path.{◌≡◌, refl, sym, ap, ap₂, ◌∙◌}
use mathlib.Core.List.{List, [], ◌∷◌, ◌++◌, map}
use native.Mathlib.Numerals.{add-one}
use native.Mathlib.Omega.{arith}
use lib.ListN.{length, take, drop, get_or, length-drop}
use lib.Seq.{get_or-drop}
use Rattle.std.specs.List.{sum}
use Rattle.std.proofs.lemmas.List.Sums.{sum_by_more}
use Rattle.lists.specs.Runs.{answers}
use Rattle.lists.specs.Sums.{total, sum_to}

module _ {A : Type 0} where
  pub total_ext : (f g : A → ℕ) → ((a : A) → f a ≡ g a) → (l : List A) → total f l ≡ total g l
  total_ext f g h [] = refl
  total_ext f g h (a ∷ l) = omega (arith, h a, total_ext f g h l)

  pub total_add : (f g : A → ℕ) (l : List A) → total (λ a. f a + g a) l ≡ total f l + total g l
  total_add f g [] = refl
  total_add f g (a ∷ l) = omega (arith, total_add f g l)

  pub total_zero : (f : A → ℕ) → ((a : A) → f a ≡ 0) → (l : List A) → total f l ≡ 0
  total_zero f h [] = refl
  total_zero f h (a ∷ l) = omega (arith, h a, total_zero f h l)

  pub total_append : (f : A → ℕ) (a b : List A) → total f (a ++ b) ≡ total f a + total f b
  total_append f [] b = omega arith
  total_append f (x ∷ a) b = omega (arith, total_append f a b)

pub total_map : {A B : Type 0} (f : B → ℕ) (g : A → B) (l : List A) → total f (map g l) ≡ total (λ a. f (g a)) l
total_map f g [] = refl
total_map f g (a ∷ l) = ap (λ (n : ℕ). f (g a) + n) (total_map f g l)

-- where each answer adds what its thing adds
pub total_answers : {S E O : Type 0} (step : S → E → S) (out : S → E → O) (f : O → ℕ) (g : E → ℕ)
    → ((s : S) (e : E) → f (out s e) ≡ g e) → (s : S) (es : List E) → total f (answers step out s es) ≡ total g es
total_answers step out f g h s [] = refl
total_answers step out f g h s (e ∷ es) = ap₂ ◌+◌ (h s e) (total_answers step out f g h (step s e) es)

-- two sums of numbers that agree below n
pub sum_to_same : (f g : ℕ → ℕ) (n : ℕ) → ((k : ℕ) → k < n → f k ≡ g k) → sum_to f n ≡ sum_to g n
sum_to_same f g zero h = refl
sum_to_same f g (suc n) h = ap₂ ◌+◌ (sum_to_same f g n (λ k l. h k (omega arith))) (h n (omega arith))

-- the sum of a part of a table, told by its places
pub sum_part : (base n : ℕ) (l : List ℕ) → base + n ≤ length l → sum (take n (drop base l)) ≡ sum_to (λ (d : ℕ). get_or l (base + d) 0) n
sum_part base zero l h = refl
sum_part base (suc n) l h =
    ap (λ (k : ℕ). sum (take k (drop base l))) (sym (add-one n))
    ∙ sum_by_more (λ (c : ℕ). c) (drop base l) n 0 (rw length-drop (omega arith))
    ∙ ap₂ ◌+◌ (sum_part base n l (omega arith)) (get_or-drop base l n 0)
