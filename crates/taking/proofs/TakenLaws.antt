-- The taking of each block size by itself is the taking of all at once that the private functions make: the tests of 6 and 7, and what is left.
-- Assumes nothing.
use Prim.Native.Nat.{ℕ, ◌*◌, ◌≤◌, ◌<◌}
use mathlib.Core.Path.{◌≡◌, ap, ap₂, ◌∙◌}
use mathlib.Core.Bool.{Bool, false, cond, not, ◌&&◌, ◌||◌, or-false}
use mathlib.Core.List.{List, [], ◌∷◌}
use native.Mathlib.Omega.{arith}
use lib.Dec.{eqb, ltb, leb}
use lib.ListN.{length}
use Rattle.lists.specs.Tables.{part, padded, over_row}
use Rattle.lists.specs.Tests.{any_to, first_of}
use Rattle.lists.proofs.Cases.{cases}
use Rattle.lists.proofs.CutLaws.{raised_cut, over_cut}
use Rattle.lists.proofs.MemberLaws.{length_front}
use Rattle.lists.proofs.PartLaws.{rows_same, padded_none}
use Rattle.lists.proofs.TestLaws.{any_same}
use Rattle.cache.specs.Cache.{ref}
use Rattle.units.specs.Refusals.{outside_limits, short_stacks, short_counts, foreign_state, refs_reached, stack_full, count_over}
use Rattle.order.specs.Limits.{within, sizes, rows, span, stack_need, count_need}
use Rattle.sizes.specs.Size.{is_full, is_over}
use Rattle.sizes.proofs.SizeLaws.{full_new}
use Rattle.order.proofs.LimitLaws.{need_spans}
use Rattle.taking.specs.Places.{used_of, stack_at, block_at, found_at, depth_at, full_at}
use Rattle.taking.specs.Plain.{over_all, topped, stacks_done, counts_done, state_done}
use Rattle.taking.specs.Parts.{Fit}
use Rattle.taking.specs.World.{World, world, size_at}
use Rattle.taking.specs.Taking.{is_foreign, taken, some_size, take_answer}
use Rattle.taking.specs.declared.Opened.{Opened}
use Rattle.taking.proofs.LookLaws.{length_stack}
use Rattle.taking.proofs.NeedLaws.{fit_past}

module _ (v : Opened) (st ct : List ℕ) (a : ℕ) (f : Fit v (length st) (length ct)) where
  pub full_at_lem : (k : ℕ) → k < sizes v.order
      → (ltb v.order.room (length (topped v st (block_at v a) k)) || false) ≡ full_at v st (block_at v a) k
  full_at_lem k h =
      let long = length_stack v st (length ct) k f h in
      or-false (ltb v.order.room (length (topped v st (block_at v a) k)))
      ∙ full_new v.order (size_at (world v st ct) k) (block_at v a k) (omega (arith, f.used k h))
      ∙ ap (λ (n : ℕ). not (found_at v st (block_at v a) k) && leb v.order.room n) long

  pub full_each : some_size is_full (world v st ct) (ref a) ≡ any_to (sizes v.order) (full_at v st (block_at v a))
  full_each =
      any_same (sizes v.order) (λ (k : ℕ). ltb v.order.room (length (topped v st (block_at v a) k)) || false)
      (full_at v st (block_at v a)) full_at_lem

  abbrev over_one : ℕ → Bool
  over_one k =
      found_at v st (block_at v a) k && any_to (rows v.order)
      (over_row v.order.ways 0 (depth_at v st (block_at v a) k) v.taken (part (k * span v.order) (span v.order) ct))

  pub over_each : some_size is_over (world v st ct) (ref a) ≡ over_all v st ct (block_at v a)
  over_each =
      any_same (sizes v.order) (λ (k : ℕ). over_one k || false) over_one (λ k h. or-false (over_one k))
      ∙ over_cut v.order.ways (rows v.order) (found_at v st (block_at v a)) (depth_at v st (block_at v a)) ct v.taken (sizes v.order)

  longer : (k : ℕ) → k < sizes v.order → used_of v k ≤ length (topped v st (block_at v a) k)
  longer k h =
      let long = length_stack v st (length ct) k f h in
      rw (length_front (block_at v a k) (stack_at v st k))
      (cases (found_at v st (block_at v a) k) (λ e. simp e (omega arith)) (λ e. simp e (omega arith)))

  -- THE LAW
  pub taken_is : taken (world v st ct) (ref a)
      ≡ world (state_done v st (block_at v a)) (stacks_done v st (block_at v a)) (counts_done v st ct (block_at v a))
  taken_is =
      ap₂ (λ (x y : List ℕ). world (state_done v st (block_at v a)) x y)
      (rows_same v.order.room (λ (k : ℕ). padded (used_of v k) (topped v st (block_at v a) k)) (topped v st (block_at v a)) (sizes v.order) st
      (λ k h. padded_none (used_of v k) (topped v st (block_at v a) k) (longer k h)))
      (raised_cut v.order.ways (rows v.order) (found_at v st (block_at v a)) (depth_at v st (block_at v a)) ct (sizes v.order)
      (omega (arith, f.wide, need_spans v.order)))

-- ---- 6 as its sentence says it

-- the answer of a taking, with "at some block size the block is new and its stack is full" for 6
pub take_answer_in_words : (w : World) (a : ℕ)
    → take_answer w (ref a)
    ≡ first_of
    ((not (within w.state.order), outside_limits)
    ∷ (ltb (length w.stacks) (stack_need w.state.order), short_stacks)
    ∷ (ltb (length w.counts) (count_need w.state.order), short_counts)
    ∷ (is_foreign w.state, foreign_state)
    ∷ (eqb w.state.taken w.state.order.refs, refs_reached)
    ∷ (any_to (sizes w.state.order) (full_at w.state w.stacks (block_at w.state a)), stack_full)
    ∷ (some_size is_over w (ref a), count_over)
    ∷ [])
take_answer_in_words w a =
    let v = w.state in
    let o = v.order in
    let over = some_size is_over w (ref a) in
    cases (within o)
    (λ one.
    cases (ltb (length w.stacks) (stack_need o))
    (λ e. simp (one, e))
    (λ two.
    cases (ltb (length w.counts) (count_need o))
    (λ e. simp (one, two, e))
    (λ three.
    cases (is_foreign v)
    (λ e. simp (one, two, three, e))
    (λ four.
    let fit = fit_past v (length w.stacks) (length w.counts) one two three four in
    simp (one, two, three, four)
    (ap (λ (t : Bool). cond (eqb v.taken o.refs) 5 (cond t 6 (cond over 7 0))) (full_each v w.stacks w.counts a fit))))))
    (λ e. simp e)
