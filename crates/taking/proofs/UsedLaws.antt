-- The used lengths of a state, set one after the other by a loop over the block sizes. Assumes nothing.
use Prim.Native.Nat.{ℕ, ◌+◌}
use mathlib.Core.Path.{◌≡◌, ap, ◌∙◌}
use mathlib.Core.List.{List}
use native.Mathlib.Omega.{arith}
use lib.ListN.{length, get_or, set}
use Rattle.lists.proofs.PartLaws.{lengths_none, lengths_more, lengths_past}
use Rattle.taking.specs.Parts.{with_lengths}
use Rattle.taking.specs.Places.{used_of}
use Rattle.taking.specs.declared.Opened.{Opened}

module _ (v : Opened) (top : ℕ → List ℕ) where
  pub lengths_start : v ≡ with_lengths v top 0
  lengths_start = ap (λ (u : List ℕ). record { order = v.order; taken = v.taken; used = u }) (lengths_none top v.used)

  -- a turn at size k finds the length there as it was, and sets it
  module _ (k : ℕ) (w : Opened) (e : w ≡ with_lengths v top k) where
    pub lengths_kept : get_or w.used k 0 ≡ used_of v k
    lengths_kept = ap (λ (z : Opened). get_or z.used k 0) e ∙ lengths_past top v.used k k (omega arith)

    pub lengths_next : (n : ℕ) → n ≡ length (top k) → record { order = w.order; taken = w.taken; used = set w.used k n } ≡ with_lengths v top (k + 1)
    lengths_next n long =
        ap (λ (z : Opened). record { order = z.order; taken = z.taken; used = set z.used k n }) e
        ∙ ap (λ (u : List ℕ). record { order = v.order; taken = v.taken; used = u }) (lengths_more top v.used k n long)
