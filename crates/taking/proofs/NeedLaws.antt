-- What refusals 1 to 5 leave of a state and its tables, what that says of the tables' parts, and back.
-- Assumes nothing.
use Prim.Native.Nat.{ℕ, ◌+◌, ◌*◌, ◌≤◌, ◌<◌}
use mathlib.Core.Path.{◌≡◌}
use mathlib.Core.Bool.{Bool, true, false, cond, not}
use lib.ListN.{length}
use native.Mathlib.Omega.{arith}
use lib.Dec.{eqb, ltb}
use borrow.Author.Tests.{not-false, ltb-false, le-ltb, eqb-false}
use Rattle.lists.specs.Tests.{any_to}
use Rattle.lists.proofs.BoolLaws.{or_none, or_both}
use Rattle.lists.proofs.Cases.{cases}
use Rattle.lists.proofs.PartLaws.{row_in}
use Rattle.lists.proofs.TestLaws.{all_facts, all_yes, none_first, any_not, any_none_of}
use Rattle.order.specs.Limits.{limits, within, sizes, rows, sizes_most, rows_most, stack_need, count_need}
use Rattle.order.proofs.LimitLaws.{needs_small}
use Rattle.taking.specs.Places.{used_of}
use Rattle.taking.specs.Taking.{is_foreign, some_size, take_answer}
use Rattle.taking.specs.World.{World}
use Rattle.sizes.specs.Size.{is_full, is_over}
use Rattle.cache.specs.Cache.{ref, flush}
use Rattle.taking.specs.Parts.{unfit_answer, early_answer, unflushable, Fit}
use Rattle.taking.specs.declared.Opened.{Opened}

-- the stack of size k, in the table of an order that fits
pub stack_fits : (v : Opened) (n m k : ℕ) → Fit v n m → k < sizes v.order → k * v.order.room + v.order.room ≤ n
stack_fits v n m k f h = omega (arith, row_in k (sizes v.order) v.order.room h, f.long)

-- the stack of size k is above room
abbrev too_long : Opened → ℕ → Bool
too_long v k = ltb v.order.room (used_of v k)

-- the counts of an order that fits
pub grid_of_lem : (v : Opened) (n m : ℕ) → Fit v n m
    → (sizes v.order ≤ sizes_most) × (rows v.order ≤ rows_most) × (1 ≤ v.order.ways) × (sizes v.order * rows v.order * v.order.ways ≤ m)
grid_of_lem v n m f = omega (arith, f.numbers, f.wide)

-- what refusals 1 to 4 leave
pub fit_past : (v : Opened) (n m : ℕ) → within v.order ≡ true → ltb n (stack_need v.order) ≡ false → ltb m (count_need v.order) ≡ false
    → is_foreign v ≡ false → Fit v n m
fit_past v n m first second third fourth =
    let own = or_none (any_to (sizes v.order) (too_long v)) (ltb v.order.refs v.taken) fourth in
    record {
      numbers = all_facts (limits v.order) first;
      long = ltb-false n (stack_need v.order) second;
      wide = ltb-false m (count_need v.order) third;
      used = λ k h. ltb-false v.order.room (used_of v k) (any_not (sizes v.order) (too_long v) own.0 k h);
      ceiling = ltb-false v.order.refs v.taken own.1;
    }

pub fit_unfit : (v : Opened) (n m : ℕ) → unfit_answer v n m ≡ 0 → Fit v n m
fit_unfit v n m e =
    let first = none_first (not (within v.order)) 0 _ e in
    let second = none_first (ltb n (stack_need v.order)) 1 _ first.1 in
    let third = none_first (ltb m (count_need v.order)) 2 _ second.1 in
    let fourth = none_first (is_foreign v) 3 0 third.1 in
    fit_past v n m (not-false (within v.order) first.0) second.0 third.0 fourth.0

-- and what 5 leaves
pub fit_of : (v : Opened) (n m : ℕ) → early_answer v n m ≡ 0 → Fit v n m × (v.taken < v.order.refs)
fit_of v n m e =
    let first = none_first (not (within v.order)) 0 _ e in
    let second = none_first (ltb n (stack_need v.order)) 1 _ first.1 in
    let third = none_first (ltb m (count_need v.order)) 2 _ second.1 in
    let fourth = none_first (is_foreign v) 3 _ third.1 in
    let fifth = none_first (eqb v.taken v.order.refs) 4 0 fourth.1 in
    let less : v.taken ≡ v.order.refs → ⊥ = eqb-false v.taken v.order.refs fifth.0 in
    let fit = fit_past v n m (not-false (within v.order) first.0) second.0 third.0 fourth.0 in
    (fit, omega (arith, less, fit.ceiling))

-- the walks look at no count
pub fit_walk : (v : Opened) (n m : ℕ) → Fit v n m → Fit v n (count_need v.order)
fit_walk v n m f = record { numbers = f.numbers; long = f.long; wide = omega arith; used = f.used; ceiling = f.ceiling }

-- the quick way looks at no stack
pub fit_tops : (v : Opened) (n m : ℕ) → Fit v n m → Fit v (stack_need v.order) m
fit_tops v n m f = record { numbers = f.numbers; long = omega arith; wide = f.wide; used = f.used; ceiling = f.ceiling }

-- and back: none of 1 to 4 applies where the state fits, and 5 not below refs
pub own_of : (v : Opened) (n m : ℕ) → Fit v n m → is_foreign v ≡ false
own_of v n m f =
    or_both (any_to (sizes v.order) (too_long v)) (ltb v.order.refs v.taken)
    (any_none_of (sizes v.order) (too_long v) (λ k h. le-ltb v.order.room (used_of v k) (f.used k h)))
    (le-ltb v.order.refs v.taken f.ceiling)

pub early_fit : (v : Opened) (n m : ℕ) → Fit v n m → early_answer v n m ≡ cond (eqb v.taken v.order.refs) 5 0
early_fit v n m f =
    simp (all_yes (limits v.order) f.numbers, le-ltb n (stack_need v.order) f.long, le-ltb m (count_need v.order) f.wide, own_of v n m f)

-- THE ANSWER where the state fits: 5, 6, 7 are left for a reference, and nothing for a flush
pub answer_by_sizes : (w : World) (a : ℕ) → Fit w.state (length w.stacks) (length w.counts)
    → take_answer w (ref a)
    ≡ cond (eqb w.state.taken w.state.order.refs) 5 (cond (some_size is_full w (ref a)) 6 (cond (some_size is_over w (ref a)) 7 0))
answer_by_sizes w a f =
    simp (
      all_yes (limits w.state.order) f.numbers,
      le-ltb (length w.stacks) (stack_need w.state.order) f.long,
      le-ltb (length w.counts) (count_need w.state.order) f.wide,
      own_of w.state (length w.stacks) (length w.counts) f,
    )

pub flush_is_done : (w : World) → Fit w.state (length w.stacks) (length w.counts) → take_answer w flush ≡ 0
flush_is_done w f =
    simp (
      all_yes (limits w.state.order) f.numbers,
      le-ltb (length w.stacks) (stack_need w.state.order) f.long,
      own_of w.state (length w.stacks) (length w.counts) f,
    )

-- the refusals 1 to 4 are a flush's where there are as many counts as any order needs
pub unfit_flush : (v : Opened) (n m : ℕ) → 1920 ≤ m → unfit_answer v n m ≡ unflushable v n
unfit_flush v n m h =
    cases (within v.order)
    (λ e. let few = (needs_small v.order (all_facts (limits v.order) e)).counts in
    simp (e, le-ltb m (count_need v.order) (omega (arith, few))))
    (λ e. simp e)

-- what an answer of 0 to a flush says: 3 is not looked at, so of the counts nothing is known
pub fit_flush : (v : Opened) (n : ℕ) → unflushable v n ≡ 0 → Fit v n (count_need v.order)
fit_flush v n e =
    let first = none_first (not (within v.order)) 0 _ e in
    let second = none_first (ltb n (stack_need v.order)) 1 _ first.1 in
    let third = none_first (is_foreign v) 3 0 second.1 in
    fit_past v n (count_need v.order) (not-false (within v.order) first.0) second.0
    (le-ltb (count_need v.order) (count_need v.order) (omega arith)) third.0
