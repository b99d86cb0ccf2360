-- Lists without repeats stay so where a number goes to the front. Assumes nothing.
use Prim.Native.Nat.{ℕ}
use mathlib.Core.Path.{◌≡◌, refl}
use mathlib.Core.Bool.{true, false, true≢false}
use mathlib.Core.List.{List, [], ◌∷◌}
use lib.Dec.{eqb}
use borrow.Author.Tests.{eqb-true, eq-eqb}
use Rattle.lists.specs.Members.{mem, remove, Distinct}
use Rattle.lists.proofs.Cases.{cases}

absent_less : (x y : ℕ) (l : List ℕ) → mem y l ≡ false → mem y (remove x l) ≡ false
absent_less x y [] h = refl
absent_less x y (z ∷ l) h =
    cases (eqb y z)
    (λ e. absurd (true≢false (simp e at h)))
    (λ e. cases (eqb x z) (λ f. simp f (simp e at h)) (λ f. simp (e, f) (absent_less x y l (simp e at h))))

removed_absent : (x : ℕ) (l : List ℕ) → Distinct l → mem x (remove x l) ≡ false
removed_absent x [] d = refl
removed_absent x (y ∷ l) d =
    cases (eqb x y) (λ e. rw (eqb-true x y e) (simp (eq_same y) d.0)) (λ e. simp e (removed_absent x l d.1))
  where
    eq_same : (y : ℕ) → eqb y y ≡ true
    eq_same y = eq-eqb y y refl

distinct_remove : (x : ℕ) (l : List ℕ) → Distinct l → Distinct (remove x l)
distinct_remove x [] d = tt
distinct_remove x (y ∷ l) d = cases (eqb x y) (λ e. simp e d.1) (λ e. simp e (absent_less x y l d.0, distinct_remove x l d.1))

pub distinct_front : (x : ℕ) (l : List ℕ) → Distinct l → Distinct (x ∷ remove x l)
distinct_front x l d = (removed_absent x l d, distinct_remove x l d)
