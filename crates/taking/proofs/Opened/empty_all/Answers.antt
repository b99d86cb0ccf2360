-- `empty_all` meets its contract: the stacks passed are emptied, and a stack to come is as it was. Assumes nothing.
use Prim.Native.Nat.{ℕ, ◌*◌, ◌≤◌, ◌<◌, ◌+◌}
use mathlib.Core.Path.{◌≡◌, refl}
use mathlib.Core.List.{List, []}
use native.Mathlib.Nat.{add-sub_cancel_left}
use native.Mathlib.Omega.{arith}
use lib.ListN.{length, get_or, length-replicate}
use Rattle.lists.proofs.PartLaws.{row_in, length_part, rows_none, rows_more}
use Rattle.lists.proofs.WriteLaws.{put_writes}
use Rattle.order.specs.Limits.{sizes}
use Rattle.taking.specs.Parts.{Stacked, zeros_for, with_lengths}
use Rattle.taking.specs.Places.{used_of}
use Rattle.taking.specs.declared.Opened.{Opened}
use Rattle.taking.proofs.UsedLaws.{lengths_start, lengths_kept, lengths_next}
use Rattle.taking.proofs.Opened.empty_all.Goals as goal

-- what a turn at size k is to zero is within the table
inside : (v w : Opened) (st st' : List ℕ) (k : ℕ) → Stacked v st → k < sizes v.order → w ≡ with_lengths v (λ (k : ℕ). []) k → length st' ≡ length st
    → k * v.order.room + get_or w.used k 0 ≤ length st'
inside v w st st' k s h e same =
    omega (arith, lengths_kept v (λ (k : ℕ). []) k w e, row_in k (sizes v.order) v.order.room h, s.long, s.used k h)

pub loop-k-init : goal.loop-k-init
loop-k-init c =
    let v = c.args.self.now in
    record { state = lengths_start v (λ (k : ℕ). []); stacks = rows_none v.order.room (zeros_for v.used) c.args.stacks.now }

pub slice_bounds-fill-end : goal.slice_bounds-fill-end
slice_bounds-fill-end c =
    let l = c.loop-k in inside c.args.self.now l.self c.args.stacks.now l.stacks l.k c.requires (omega arith) l.invariant.state l.auto.stacks

pub loop-k-preserved : goal.loop-k-preserved
loop-k-preserved c =
    let v = c.args.self.now in
    let st = c.args.stacks.now in
    let l = c.loop-k in
    let base = l.k * v.order.room in
    let kept = lengths_kept v (λ (k : ℕ). []) l.k l.self l.invariant.state in
    let long =
    length_part base (get_or l.self.used l.k 0) l.stacks (inside v l.self st l.stacks l.k c.requires (omega arith) l.invariant.state l.auto.stacks) in
    let zeros = rw (add-sub_cancel_left, long, kept) at (c.fill.ensures.after (λ y e. e)) in
    record {
      state = lengths_next v (λ (k : ℕ). []) l.k l.self l.invariant.state 0 refl;
      stacks =
          rows_more v.order.room (zeros_for v.used) st l.k l.stacks _ l.invariant.stacks
          (rw (add-sub_cancel_left, kept, zeros)
          (put_writes base (used_of v l.k) (zeros_for v.used l.k) l.stacks (length-replicate {A = ℕ} (used_of v l.k) 0)));
    }
