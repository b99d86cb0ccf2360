-- All stacks, where each walk left below room: each stays within room with its block on top, and a loop finds each as it was.
-- Not here: a block that goes to the front of one stack (lists/FrontLaws). Assumes nothing.
use Prim.Native.Nat.{ℕ, ◌+◌, ◌*◌, ◌≤◌, ◌<◌, max}
use mathlib.Core.Path.{◌≡◌, ap, ◌∙◌}
use mathlib.Core.List.{List, ◌++◌}
use native.Mathlib.Omega.{arith}
use lib.ListN.{length, take, drop, length-drop}
use Rattle.lists.specs.Tables.{front, write_at, written_rows}
use Rattle.lists.proofs.FrontLaws.{front_is, front_length}
use Rattle.lists.proofs.PartLaws.{row_in, drop_rows}
use Rattle.order.specs.Limits.{sizes}
use Rattle.taking.specs.Parts.{Roomed, walk_of}
use Rattle.taking.specs.Places.{used_of}
use Rattle.taking.specs.Plain.{topped}
use Rattle.taking.specs.declared.Opened.{Opened}
use Rattle.taking.specs.declared.references.Walk.{Walk}

module _ (v : Opened) (x : ℕ → ℕ) (st : List ℕ) (ws : List Walk) (left : Roomed v x st ws) where
  -- the length of a stack with its block on top, from where the walk left
  pub topped_length : (k : ℕ) → k < sizes v.order → max (used_of v k) ((walk_of ws k).place + 1) ≡ length (topped v st x k)
  topped_length k h =
      ap (λ (p : ℕ). max (used_of v k) (p + 1)) (left.place k h)
      ∙ front_length (x k) (used_of v k) (drop (k * v.order.room) st)
      (rw length-drop (omega (arith, row_in k (sizes v.order) v.order.room h, left.long, left.used k h)))

  roomy_of : (k : ℕ) → k < sizes v.order → length (topped v st x k) ≤ v.order.room
  roomy_of k h = rw (← topped_length k h) (omega (arith, left.used k h, left.below k h))

  -- at size k, once the stacks before it have changed, to t: the block goes on top of the stack as it was
  pub topped_there : (k : ℕ) → k < sizes v.order → (t : List ℕ) → t ≡ written_rows v.order.room (topped v st x) k st
      → take (k * v.order.room) t ++ front (x k) ((walk_of ws k).place) (drop (k * v.order.room) t) ≡ write_at (k * v.order.room) (topped v st x k) t
  unfolding write_at
  topped_there k h t e =
      let same = ap (drop (k * v.order.room)) e ∙ drop_rows v.order.room (topped v st x) st (sizes v.order) left.long roomy_of k (omega arith) in
      ap (λ (q : List ℕ). take (k * v.order.room) t ++ q)
      (rw (left.place k h, same) (front_is (x k) (used_of v k) (drop (k * v.order.room) st)))
