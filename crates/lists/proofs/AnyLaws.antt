-- Whether some of a list's first entries pass a test, told by their places: what a chain that asks `any` finds is `any_to`.
-- Assumes nothing.
use Prim.Native.Nat.{ℕ, zero, suc, ◌≤◌}
use mathlib.Core.Path.{◌≡◌, refl}
use mathlib.Core.Bool.{Bool}
use mathlib.Core.List.{List}
use native.Mathlib.Numerals.{add-one}
use native.Mathlib.Omega.{arith}
use lib.ListN.{length, take, get_or}
use Rattle.std.specs.List.{list_any}
use Rattle.std.proofs.lemmas.List.Folds.{list_any_more}
use Rattle.lists.specs.Tests.{any_to}

pub any_listed : {A : Type 0} (p : A → Bool) (xs : List A) (d : A) (n : ℕ) → n ≤ length xs → list_any p (take n xs) ≡ any_to n (λ (k : ℕ). p (get_or xs k d))
unfolding any_to
any_listed p xs d zero h = refl
any_listed p xs d (suc n) h = rw (← add-one n, list_any_more p xs n d (omega arith), any_listed p xs d n (omega arith))
