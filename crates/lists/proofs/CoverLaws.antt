-- A list that covers another under a function: what is in the one is taken to what is in the other. Assumes nothing.
use Prim.Native.Nat.{ℕ, ◌≤◌}
use mathlib.Core.Path.{◌≡◌, sym, ap, ◌∙◌}
use mathlib.Core.Bool.{true, or-true}
use mathlib.Core.List.{List, ◌∷◌}
use native.Mathlib.Omega.{arith}
use lib.Dec.{eqb}
use lib.ListN.{length}
use borrow.Author.Tests.{eqb-true, eq-eqb}
use Rattle.lists.specs.Members.{mem, remove}
use Rattle.lists.proofs.Cases.{cases}
use Rattle.lists.proofs.MemberLaws.{mem_front, length_front}

-- f takes what is in one list to all that is in the other, which is no longer
abbrev pub Covers : (ℕ → ℕ) → List ℕ → List ℕ → Type 0
Covers f l l' = ((y : ℕ) → mem y l ≡ true → mem (f y) l' ≡ true) × (length l' ≤ length l)

-- and it stays so where a number goes to the front of the one and its image to the front of the other
pub covers_step : (f : ℕ → ℕ) (x : ℕ) (l l' : List ℕ) → Covers f l l' → Covers f (x ∷ remove x l) (f x ∷ remove (f x) l')
covers_step f x l l' (m, n) = (held, long)
  where
    held : (y : ℕ) → mem y (x ∷ remove x l) ≡ true → mem (f y) (f x ∷ remove (f x) l') ≡ true
    held y h =
        mem_front (f x) (f y) l'
        ∙ cases (eqb y x)
        (λ e. let q = eqb-true y x e in simp (eq-eqb (f y) (f x) (ap f q)))
        (λ e. simp (m y (simp e at (sym (mem_front x y l) ∙ h)), or-true))

    long : length (f x ∷ remove (f x) l') ≤ length (x ∷ remove x l)
    long =
        rw (length_front (f x) l', length_front x l)
        (cases (mem x l)
        (λ e. simp (e, m x e) n)
        (λ e. simp e (cases (mem (f x) l') (λ g. simp g (omega arith)) (λ g. simp g (omega arith)))))
