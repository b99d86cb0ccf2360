-- A number put in front of a list in place (`front`), where a walk for it left: what stands behind it is the list less that number, and the
-- entries past those that were walked stay. Assumes nothing.
use Prim.Native.Nat.{ℕ, zero, suc, ◌+◌, ◌≤◌, max}
use mathlib.Core.Path.{◌≡◌, refl, sym, ap}
use mathlib.Core.List.{List, [], ◌∷◌, ◌++◌}
use native.Mathlib.Numerals.{add-one}
use native.Mathlib.Omega.{arith}
use lib.Dec.{eqb}
use lib.ListN.{length, take, drop}
use lib.Seq.{length-take-le}
use Rattle.lists.specs.Members.{remove, above}
use Rattle.lists.specs.Tables.{front}
use Rattle.lists.proofs.Cases.{cases}
use Rattle.lists.proofs.PartLaws.{own_front}

-- of the u entries that the list m begins with
module _ (x : ℕ) where
  behind : (u : ℕ) (m : List ℕ) → take (length (above x (take u m))) m ++ drop (suc (length (above x (take u m)))) m
      ≡ remove x (take u m) ++ drop (suc (length (remove x (take u m)))) m
  behind zero m = refl
  behind (suc u) [] = refl
  behind (suc u) (y ∷ m) =
      cases (eqb x y)
      (λ e. simp e (sym (own_front u m)))
      (λ e. simp e (ap (λ (q : List ℕ). y ∷ q) (behind u m)))

  pub front_length : (u : ℕ) (m : List ℕ) → u ≤ length m → max u (length (above x (take u m)) + 1) ≡ length (x ∷ remove x (take u m))
  front_length zero m h = refl
  front_length (suc u) [] h = absurd (omega arith)
  front_length (suc u) (y ∷ m) h =
      cases (eqb x y)
      (λ e. simp e (omega (arith, length-take-le u m (omega arith))))
      (λ e. simp e (omega (arith, front_length u m (omega arith))))

  pub front_is : (u : ℕ) (m : List ℕ) → front x (length (above x (take u m))) m ≡ (x ∷ remove x (take u m)) ++ drop (length (x ∷ remove x (take u m))) m
  front_is u m = rw add-one (ap (λ (q : List ℕ). x ∷ q) (behind u m))
