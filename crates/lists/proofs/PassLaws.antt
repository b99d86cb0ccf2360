-- A list passed thing by thing: a machine past its end, and what is left so far at the front of an output, as far as that has room.
-- Assumes nothing.
use Prim.Native.Nat.{ℕ, ◌≤◌, ◌<◌}
use mathlib.Core.Path.{◌≡◌}
use mathlib.Core.List.{List, [], ◌∷◌, ◌++◌}
use native.Mathlib.Numerals.{add-one}
use native.Mathlib.Omega.{arith}
use Rattle.std.specs.List.{refill}
use Rattle.std.proofs.lemmas.Grind.{common_steps}
use Rattle.std.proofs.lemmas.List.{length-append}
use lib.ListN.{length, drop, set, drop_of_length-le}
use lib.Seq.{drop-cons, append_snoc, set-append_seam, take-set-lt}
use Rattle.lists.specs.Runs.{after}

after_end_lem : {S : Type 0} (step : S → ℕ → S) (s : S) (l : List ℕ) (i : ℕ) → length l ≤ i → after step s (drop i l) ≡ s
after_end_lem step s l i h = rw (drop_of_length-le l h)

-- one thing more has room, and is put behind those that stand there
pub front_more : (out ks : List ℕ) (x : ℕ) → length ks < length out
    → set (refill (length out) out ks) (length ks) x ≡ refill (length out) out (ks ++ (x ∷ []))
front_more out ks x h = rw (← take-set-lt, drop-cons out (length ks) 0, set-append_seam, append_snoc, length-append, add-one)

-- one that has none is left out
pub front_full : (out ks : List ℕ) (x : ℕ) → length out ≤ length ks → refill (length out) out ks ≡ refill (length out) out (ks ++ (x ∷ []))
front_full out ks x h = grind (arith, common_steps)
