-- Laws of `first_of`, `any_to` and `all_le`.
-- Assumes nothing.
use Prim.Native.Nat.{ℕ, zero, suc, ◌+◌, ◌≤◌, ◌<◌}
use mathlib.Core.Path.{◌≡◌, refl, sym, ap, ◌∙◌, subst}
use mathlib.Core.Bool.{Bool, true, false, cond, true≢false, false≢true, or-true, not, ◌&&◌, ◌||◌}
use mathlib.Core.List.{List, [], ◌∷◌, ◌++◌}
use native.Mathlib.Numerals.{add-one}
use native.Mathlib.Omega.{arith}
use lib.Dec.{leb, eqb}
use borrow.Author.Tests.{le-leb, leb-true, eq-eqb, ne_eqb, eqb-true, eqb-false}
use Rattle.lists.specs.Tests.{first_of, settled, any_to, all_le, All≤}
use Rattle.lists.proofs.Cases.{cases}

-- ---- the first that holds

-- no test held, nor did a later one
pub none_first : (t : Bool) (n m : ℕ) → cond t (suc n) m ≡ 0 → (t ≡ false) × (m ≡ 0)
none_first true n m e = absurd (omega arith)
none_first false n m e = (refl, e)

-- each number is that of a refusal, so not 0
unfoldable pub are_given : List (Bool × ℕ) → Bool
are_given [] = true
are_given (c ∷ cs) = not (eqb c.1 0) && are_given cs

-- the first of some tests, and where none of them holds, of those after them
pub first_then : (cs ds : List (Bool × ℕ)) → are_given cs ≡ true → first_of (cs ++ ds) ≡ cond (eqb (first_of cs) 0) (first_of ds) (first_of cs)
unfolding are_given
first_then [] ds h = refl
first_then (c ∷ cs) ds h =
    cases (eqb c.1 0)
    (λ z. absurd (false≢true (simp z at h)))
    (λ z. cases c.0 (λ e. simp (e, z)) (λ e. simp e (first_then cs ds (simp z at h))))

-- ---- what is left

pub settled_done : {A : Type 0} (n : ℕ) (new old : A) → n ≡ 0 → settled n new old ≡ new
settled_done n new old e = ap (λ (t : Bool). cond t new old) (eq-eqb n 0 e)

pub settled_not : {A : Type 0} (n : ℕ) (new old : A) → (n ≡ 0 → ⊥) → settled n new old ≡ old
settled_not n new old ne = ap (λ (t : Bool). cond t new old) (ne_eqb n 0 ne)

-- what is left, put into something
pub settled_in : {A B : Type 0} (f : A → B) (n : ℕ) (new old : A) → f (settled n new old) ≡ settled n (f new) (f old)
settled_in f n new old = cases (eqb n 0) (λ e. simp e) (λ e. simp e)

-- ---- whether some holds

pub any_none : (p : ℕ → Bool) → any_to 0 p ≡ false
unfolding any_to
any_none p = refl

pub any_more : (k : ℕ) (p : ℕ → Bool) → any_to k p ≡ false → p k ≡ false → any_to (k + 1) p ≡ false
unfolding any_to
any_more k p h e = rw (add-one k) (simp (h, e))

pub any_next : (k : ℕ) (p : ℕ → Bool) → any_to (k + 1) p ≡ (any_to k p || p k)
unfolding any_to
any_next k p = rw (add-one k)

pub any_yes : (n k : ℕ) (p : ℕ → Bool) → k < n → p k ≡ true → any_to n p ≡ true
unfolding any_to
any_yes zero k p h e = absurd (omega arith)
any_yes (suc n) k p h e =
    cases (eqb k n)
    (λ q. let r = eqb-true k n q in rw (← r) (simp (e, or-true)))
    (λ q. let r : k ≡ n → ⊥ = eqb-false k n q in simp (any_yes n k p (omega (arith, r)) e))

pub any_not : (n : ℕ) (p : ℕ → Bool) → any_to n p ≡ false → (k : ℕ) → k < n → p k ≡ false
any_not n p h k l = cases (p k) (λ e. absurd (true≢false (sym (any_yes n k p l e) ∙ h))) (λ e. e)

pub any_same : (n : ℕ) (p q : ℕ → Bool) → ((k : ℕ) → k < n → p k ≡ q k) → any_to n p ≡ any_to n q
unfolding any_to
any_same zero p q h = refl
any_same (suc n) p q h = simp (any_same n p q (λ k l. h k (omega arith)), h n (omega arith))

pub any_none_of : (n : ℕ) (p : ℕ → Bool) → ((k : ℕ) → k < n → p k ≡ false) → any_to n p ≡ false
unfolding any_to
any_none_of zero p h = refl
any_none_of (suc n) p h = simp (any_none_of n p (λ k l. h k (omega arith)), h n (omega arith))

-- none of all n, where a loop has passed k = n of them
pub any_ended : (n k : ℕ) (p : ℕ → Bool) → k ≤ n → n ≤ k → any_to k p ≡ false → any_to n p ≡ false
any_ended n k p h g e = let q : k ≡ n = omega arith in subst (λ (m : ℕ). any_to m p ≡ false) q e

-- the first decides where each is no more than the first
pub any_first : (n : ℕ) (p : ℕ → Bool) → 0 < n → ((k : ℕ) → k < n → p k ≡ true → p 0 ≡ true) → any_to n p ≡ p 0
any_first n p pos h =
    cases (p 0)
    (λ e. any_yes n 0 p pos e ∙ sym e)
    (λ e. any_none_of n p (λ k l. cases (p k) (λ f. absurd (true≢false (sym (h k l f) ∙ e))) (λ f. f)) ∙ sym e)

-- ---- whether all do

pub all_yes : (l : List (ℕ × ℕ)) → All≤ l → all_le l ≡ true
unfolding all_le
all_yes [] h = refl
all_yes (p ∷ l) h = simp (le-leb p.0 p.1 h.0, all_yes l h.1)

pub all_facts : (l : List (ℕ × ℕ)) → all_le l ≡ true → All≤ l
unfolding all_le
all_facts [] h = tt
all_facts (p ∷ l) h =
    cases (leb p.0 p.1)
    (λ e. (leb-true p.0 p.1 e, all_facts l (simp e at h)))
    (λ e. absurd (false≢true (simp e at h)))

pub all_not : (l : List (ℕ × ℕ)) → (All≤ l → ⊥) → all_le l ≡ false
all_not l h = cases (all_le l) (λ e. absurd (h (all_facts l e))) (λ e. e)
