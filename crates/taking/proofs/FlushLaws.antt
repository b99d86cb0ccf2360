-- A flush in any world, over all block sizes at once: the entries of each stack are zero and its used length is 0; all else stays, counts that are
-- too short for the order too. Assumes nothing.
use Prim.Native.Nat.{ℕ, ◌+◌, ◌*◌, ◌≤◌, ◌<◌}
use mathlib.Core.Path.{◌≡◌, sym, ap, ap₂, ◌∙◌}
use mathlib.Core.List.{List, []}
use native.Mathlib.Nat.{add-zero, sub-zero}
use native.Mathlib.Omega.{arith}
use lib.ListN.{length, drop, get_or, replicate, length-replicate}
use Rattle.lists.specs.Tables.{part, padded, written_rows, set_lengths}
use Rattle.lists.proofs.PartLaws.{part_at, write_same, drop_rows, row_after, entry_after, rows_same}
use Rattle.lists.proofs.TestLaws.{settled_done, settled_not}
use Rattle.lists.proofs.TopRowLaws.{written_same}
use Rattle.lists.proofs.ZeroLaws.{zeros_at}
use Rattle.cache.specs.Cache.{flush}
use Rattle.order.specs.Limits.{sizes, span, stack_need, count_need}
use Rattle.taking.specs.Places.{used_of}
use Rattle.taking.specs.Parts.{unflushable, Fit, zeros_for}
use Rattle.taking.specs.World.{world}
use Rattle.taking.specs.Taking.{taken, take_answer, Takes}
use Rattle.taking.specs.declared.Opened.{Opened}
use Rattle.taking.proofs.NeedLaws.{fit_flush}

module _ (v : Opened) (st ct : List ℕ) where
  -- every used length of the order is 0, and every used entry
  abbrev pub emptied_state : Opened
  emptied_state = record { order = v.order; taken = v.taken; used = set_lengths (λ (k : ℕ). []) (sizes v.order) v.used }

  abbrev pub emptied_stacks : List ℕ
  emptied_stacks = written_rows v.order.room (zeros_for v.used) (sizes v.order) st

  -- THE LAW
  pub flushed_is : taken (world v st ct) flush ≡ world emptied_state emptied_stacks ct
  flushed_is =
      ap (λ (n : ℕ). world (record { order = v.order; taken = n; used = emptied_state.used }) (taken (world v st ct) flush).stacks
      (taken (world v st ct) flush).counts) (add-zero v.taken)
      ∙ ap₂ (world emptied_state)
      (rows_same v.order.room (λ (k : ℕ). padded (used_of v k) []) (zeros_for v.used) (sizes v.order) st
      (λ k h. ap (λ (n : ℕ). replicate n 0) (sub-zero (used_of v k))))
      (written_same (span v.order) (λ (k : ℕ). part (k * span v.order) (span v.order) ct) ct (sizes v.order)
      (λ k h. write_same (k * span v.order) (span v.order) ct))

  -- ---- what is read then, where no refusal applies

  module _ (z : unflushable v (length st) ≡ 0) where
    fit : Fit v (length st) (count_need v.order)
    fit = fit_flush v (length st) z

    zeros_fit : (k : ℕ) → k < sizes v.order → length (zeros_for v.used k) ≤ v.order.room
    zeros_fit k h = rw (length-replicate {A = ℕ} (used_of v k) 0) (fit.used k h)

    -- entries past what the order needs stay
    pub flush_past : drop (stack_need v.order) emptied_stacks ≡ drop (stack_need v.order) st
    flush_past = drop_rows v.order.room (zeros_for v.used) st (sizes v.order) fit.long zeros_fit (sizes v.order) (omega arith)

    -- used entries are zero, and those beyond them stay
    pub used_zero : (k j : ℕ) → k < sizes v.order → j < used_of v k → get_or emptied_stacks (k * v.order.room + j) 0 ≡ 0
    used_zero k j h g =
        let n = length-replicate {A = ℕ} (used_of v k) 0 in
        let here : j < length (zeros_for v.used k) = omega arith in
        sym (part_at (k * v.order.room) (length (zeros_for v.used k)) emptied_stacks j here)
        ∙ ap (λ (l : List ℕ). get_or l j 0)
        (row_after v.order.room (zeros_for v.used) st (sizes v.order) fit.long zeros_fit (sizes v.order) k (omega arith) h)
        ∙ zeros_at (used_of v k) j

    pub unused_stay : (k j : ℕ) → k < sizes v.order → used_of v k ≤ j → j < v.order.room
        → get_or emptied_stacks (k * v.order.room + j) 0 ≡ get_or st (k * v.order.room + j) 0
    unused_stay k j h g u =
        entry_after v.order.room (zeros_for v.used) st (sizes v.order) fit.long zeros_fit (sizes v.order) k j (omega arith) h
        (rw (length-replicate {A = ℕ} (used_of v k) 0) g) u

  -- ---- the outcome

  pub flush_refused : (r : ℕ) → r ≡ unflushable v (length st) → (r ≡ 0 → ⊥) → Takes (world v st ct) flush r (world v st ct)
  flush_refused r e ne = record {
    answer = e;
    left = sym (settled_not (take_answer (world v st ct) flush) (taken (world v st ct) flush) (world v st ct) (λ z. ne (e ∙ z)));
  }

  pub flush_done : (v' : Opened) (st' : List ℕ) → unflushable v (length st) ≡ 0 → v' ≡ emptied_state → st' ≡ emptied_stacks
      → Takes (world v st ct) flush 0 (world v' st' ct)
  flush_done v' st' z p q = record {
    answer = sym z;
    left =
        ap₂ (λ (x : Opened) (y : List ℕ). world x y ct) p q
        ∙ sym flushed_is
        ∙ sym (settled_done (take_answer (world v st ct) flush) (taken (world v st ct) flush) (world v st ct) z);
  }
