-- What an answer of 0 says of a taking, in any world: no refusal applies, so each block size can be put back, and entries past the needs stay.
-- Assumes nothing.
use Prim.Native.Nat.{ℕ, ◌+◌, ◌≤◌}
use mathlib.Core.Path.{◌≡◌, sym, ap, ◌∙◌}
use mathlib.Core.Bool.{false, not, ◌||◌}
use native.Mathlib.Omega.{arith}
use lib.Dec.{eqb, ltb}
use lib.ListN.{length, drop}
use borrow.Author.Tests.{le-ltb}
use Rattle.lists.specs.Runs.{after, any_on}
use Rattle.lists.proofs.TestLaws.{none_first, any_not, any_none_of}
use Rattle.cache.specs.Cache.{Given, ref, flush, referred}
use Rattle.cache.proofs.GivenLaws.{touches_one}
use Rattle.order.specs.Limits.{within, sizes, stack_need, count_need}
use Rattle.sizes.specs.Size.{Size, size_step, is_full}
use Rattle.sizes.proofs.SizeLaws.{total_after, length_after, roomy_after}
use Rattle.taking.specs.Parts.{early_answer}
use Rattle.taking.specs.Taking.{is_foreign, events_in, taken, some_size, take_answer}
use Rattle.taking.specs.World.{World, size_at}
use Rattle.taking.proofs.FlushLaws.{flushed_is, flush_past}
use Rattle.taking.proofs.NeedLaws.{fit_of, fit_flush}
use Rattle.calls.proofs.WorldLaws.{Fits, Fitting, length_at, span_at, stacks_past, counts_past}

-- no stack passes room, and the references stay within refs
pub record Passed (w : World) (g : Given) : Type 0 where
  pub ceiling : w.state.taken + referred g ≤ w.state.order.refs
  pub roomy : some_size is_full w g ≡ false

-- a reference: none of 1 to 6 applies
ref_passed : (w : World) (a : ℕ) → take_answer w (ref a) ≡ 0 → Fits w × Passed w (ref a)
ref_passed w a e =
    let first = none_first (not (within w.state.order)) 0 _ e in
    let second = none_first (ltb (length w.stacks) (stack_need w.state.order)) 1 _ first.1 in
    let third = none_first (ltb (length w.counts) (count_need w.state.order)) 2 _ second.1 in
    let fourth = none_first (is_foreign w.state) 3 _ third.1 in
    let fifth = none_first (eqb w.state.taken w.state.order.refs) 4 _ fourth.1 in
    let sixth = none_first (some_size is_full w (ref a)) 5 _ fifth.1 in
    let early : early_answer w.state (length w.stacks) (length w.counts) ≡ 0
    = simp (first.0, second.0, third.0, fourth.0, fifth.0) in
    let fit = fit_of w.state (length w.stacks) (length w.counts) early in
    (fit.0, record { ceiling = omega (arith, fit.1); roomy = sixth.0 })

pub passed : (w : World) (g : Given) → take_answer w g ≡ 0 → Passed w g
passed w (ref a) e = (ref_passed w a e).1
passed w flush e = record {
  ceiling = omega (arith, (fit_flush w.state (length w.stacks) e).ceiling);
  roomy =
      any_none_of (sizes w.state.order) (λ (k : ℕ). ltb w.state.order.room 0 || false)
      (λ k h. simp (le-ltb w.state.order.room 0 (omega arith)));
}

-- a block size after the events of g
abbrev pub size_next : World → Given → ℕ → Size
size_next w g k = after (size_step w.state.order) (size_at w k) (events_in w g k)

module _ (w : World) (g : Given) where
  pub total_next : (k : ℕ) → (size_next w g k).total ≡ w.state.taken + referred g
  total_next k =
      total_after w.state.order (size_at w k) (events_in w g k)
      ∙ ap (λ (n : ℕ). w.state.taken + n) (touches_one (w.state.order.bmin.0 + k) g)

  pub fitting_next : Fits w → some_size is_full w g ≡ false → Fitting w (size_next w g)
  fitting_next fit roomy = record {
    total = λ k h. total_next k ∙ sym (total_next 0);
    stack = λ k h.
        roomy_after w.state.order (size_at w k) (events_in w g k) (omega (arith, length_at w fit k h, fit.used k h))
        (any_not (sizes w.state.order)
        (λ (k : ℕ). any_on (size_step w.state.order) (is_full w.state.order) (size_at w k) (events_in w g k)) roomy k h);
    counts = λ k h. length_after w.state.order (size_at w k) (events_in w g k) ∙ span_at w fit k h;
  }

-- entries past what the order needs stay
pub stacks_past_taken : (w : World) (g : Given) → take_answer w g ≡ 0
    → drop (stack_need w.state.order) (taken w g).stacks ≡ drop (stack_need w.state.order) w.stacks
stacks_past_taken w (ref a) e =
    let p = ref_passed w a e in
    stacks_past w p.0 (size_next w (ref a)) (fitting_next w (ref a) p.0 p.1.roomy)
stacks_past_taken w flush e =
    ap (λ (x : World). drop (stack_need w.state.order) x.stacks) (flushed_is w.state w.stacks w.counts)
    ∙ flush_past w.state w.stacks w.counts e

pub counts_past_taken : (w : World) (g : Given) → take_answer w g ≡ 0
    → drop (count_need w.state.order) (taken w g).counts ≡ drop (count_need w.state.order) w.counts
counts_past_taken w (ref a) e =
    let p = ref_passed w a e in
    counts_past w p.0 (size_next w (ref a)) (fitting_next w (ref a) p.0 p.1.roomy)
counts_past_taken w flush e = ap (λ (x : World). drop (count_need w.state.order) x.counts) (flushed_is w.state w.stacks w.counts)
