-- Where the block is on top of every stack: it is found, each depth is 0, no stack changes, and the counts to be raised are the first of each row.
-- Assumes nothing.
use Prim.Native.Nat.{ℕ, ◌+◌, ◌*◌, ◌<◌}
use mathlib.Core.Path.{◌≡◌, sym, ap, ◌∙◌}
use mathlib.Core.Bool.{Bool, true, false, not, ◌&&◌}
use mathlib.Core.List.{List, []}
use native.Mathlib.Nat.{add-zero}
use native.Mathlib.Omega.{arith}
use lib.Dec.{eqb, leb}
use lib.ListN.{length, get_or}
use borrow.Author.Tests.{eqb-true, eqb-false, leb-false, not-true, not-false}
use Rattle.lists.specs.Members.{above, keep}
use Rattle.lists.specs.Tables.{write_at, raised_rows, over_row}
use Rattle.lists.specs.Tests.{any_to}
use Rattle.lists.proofs.BoolLaws.{or_none}
use Rattle.lists.proofs.MemberLaws.{head_facts}
use Rattle.lists.proofs.PartLaws.{write_same}
use Rattle.lists.proofs.RaiseLaws.{groups_same}
use Rattle.lists.proofs.TestLaws.{any_not, any_same, any_none_of}
use Rattle.lists.proofs.TopRowLaws.{over_top, any_groups, raised_groups_lem, written_same, lengths_same}
use Rattle.cache.specs.Cache.{set_of}
use Rattle.order.specs.Limits.{sizes, rows}
use Rattle.taking.specs.Places.{used_of, stack_at, found_at, depth_at, full_at}
use Rattle.taking.specs.Plain.{over_all, topped, state_done, stacks_done, counts_done}
use Rattle.taking.specs.Parts.{Fit, off_top, on_top}
use Rattle.taking.specs.declared.Opened.{Opened}
use Rattle.taking.proofs.LookLaws.{length_stack, read_stack}

module _ (v : Opened) (st : List ℕ) (x : ℕ → ℕ) (m : ℕ) (f : Fit v (length st) m) (on : on_top v st x ≡ true) where
  top_at : (k : ℕ) → k < sizes v.order → (0 < used_of v k) × (x k ≡ get_or st (k * v.order.room) 0)
  top_at k h =
      let both =
      or_none (eqb (used_of v k) 0) (not (eqb (x k) (get_or st (k * v.order.room) 0)))
      (any_not (sizes v.order) (off_top v st x) (not-true (any_to (sizes v.order) (off_top v st x)) on) k h) in
      let some : used_of v k ≡ 0 → ⊥ = eqb-false (used_of v k) 0 both.0 in
      (omega (arith, some), eqb-true (x k) (get_or st (k * v.order.room) 0) (not-false (eqb (x k) (get_or st (k * v.order.room) 0)) both.1))

  top_stack : (k : ℕ) → k < sizes v.order → (found_at v st x k ≡ true) × (above (x k) (stack_at v st k) ≡ []) × (topped v st x k ≡ stack_at v st k)
  top_stack k h =
      head_facts (x k) (stack_at v st k) (rw (length_stack v st m k f h) (top_at k h).0)
      (read_stack v st k 0 (top_at k h).0 ∙ ap (λ (n : ℕ). get_or st n 0) (add-zero (k * v.order.room)) ∙ sym (top_at k h).1)

  top_depth : (k s : ℕ) → k < sizes v.order → depth_at v st x k s ≡ 0
  top_depth k s h = ap (λ (t : List ℕ). length (keep (λ y. eqb (set_of s (x k)) (set_of s y)) t)) (top_stack k h).1

  pub top_full : any_to (sizes v.order) (full_at v st x) ≡ false
  top_full = any_none_of (sizes v.order) (full_at v st x) (λ k h. simp (top_stack k h).0)

  pub top_over_lem : (ct : List ℕ)
      → any_to (sizes v.order * rows v.order) (λ (s : ℕ). leb v.taken (get_or ct (s * v.order.ways) 0)) ≡ over_all v st ct x
  top_over_lem ct =
      sym
      (any_same (sizes v.order)
      (λ (k : ℕ). found_at v st x k && any_to (rows v.order) (over_row v.order.ways (k * rows v.order) (depth_at v st x k) v.taken ct))
      (λ (k : ℕ). any_to (rows v.order) (λ (s : ℕ). leb v.taken (get_or ct ((k * rows v.order + s) * v.order.ways) 0)))
      (λ k h.
      ap (λ (t : Bool). t && any_to (rows v.order) (over_row v.order.ways (k * rows v.order) (depth_at v st x k) v.taken ct))
      (top_stack k h).0
      ∙ any_same (rows v.order) (over_row v.order.ways (k * rows v.order) (depth_at v st x k) v.taken ct)
      (λ (s : ℕ). leb v.taken (get_or ct ((k * rows v.order + s) * v.order.ways) 0))
      (λ s g. over_top v.order.ways (k * rows v.order) (depth_at v st x k) v.taken ct s (top_depth k s h)
      (omega (arith, f.numbers, f.ceiling))))
      ∙ any_groups (sizes v.order) (rows v.order) (λ (s : ℕ). leb v.taken (get_or ct (s * v.order.ways) 0)))

  pub top_counts : (ct : List ℕ) → raised_rows v.order.ways 0 (λ (t : ℕ). 0) (sizes v.order * rows v.order) ct ≡ counts_done v st ct x
  top_counts ct =
      sym
      (groups_same v.order.ways (rows v.order) (found_at v st x) (λ (k : ℕ). true) (depth_at v st x) (λ (k s : ℕ). 0) (sizes v.order) ct
      (λ k h. (top_stack k h).0) (λ k s h g. top_depth k s h)
      ∙ raised_groups_lem v.order.ways (rows v.order) (sizes v.order) ct)

  pub top_stacks : st ≡ stacks_done v st x
  top_stacks =
      sym
      (written_same v.order.room (topped v st x) st (sizes v.order)
      (λ k h.
      ap (λ (t : List ℕ). write_at (k * v.order.room) t st) (top_stack k h).2
      ∙ write_same (k * v.order.room) (used_of v k) st))

  pub top_state : record { order = v.order; taken = v.taken + 1; used = v.used } ≡ state_done v st x
  top_state =
      ap (λ (u : List ℕ). record { order = v.order; taken = v.taken + 1; used = u })
      (sym (lengths_same (topped v st x) v.used (sizes v.order) (λ k h. ap length (top_stack k h).2 ∙ length_stack v st m k f h)))

-- where no count is over, each can go up by one
pub top_small : (v : Opened) (n m : ℕ) → Fit v n m → (ct : List ℕ)
    → any_to (sizes v.order * rows v.order) (λ (s : ℕ). leb v.taken (get_or ct (s * v.order.ways) 0)) ≡ false
    → (s : ℕ) → s < sizes v.order * rows v.order → get_or ct (s * v.order.ways) 0 < 4294967295
top_small v n m f ct e s h =
    let under = leb-false v.taken (get_or ct (s * v.order.ways) 0)
    (any_not (sizes v.order * rows v.order) (λ (s : ℕ). leb v.taken (get_or ct (s * v.order.ways) 0)) e s h) in
    omega (arith, f.numbers, f.ceiling)
