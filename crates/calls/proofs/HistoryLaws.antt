-- What a world holds after `past` was taken: each block size is what the machine of one size makes of its events. A taking keeps it so.
-- Assumes nothing.
use Prim.Native.Nat.{ℕ, ◌+◌, ◌*◌, ◌≤◌, ◌<◌}
use mathlib.Core.Path.{◌≡◌, refl, sym, ap, ap₂, ◌∙◌}
use mathlib.Core.List.{List, [], ◌∷◌, ◌++◌}
use native.Mathlib.Omega.{arith}
use lib.ListN.{length, take, drop, get_or}
use Rattle.lists.specs.Runs.{after}
use Rattle.lists.specs.Tables.{zeroed}
use Rattle.lists.specs.Tests.{All≤}
use Rattle.lists.proofs.PartLaws.{row_in}
use Rattle.lists.proofs.RunLaws.{after_append}
use Rattle.lists.proofs.ZeroLaws.{length_zeroed, get_d_zeroed, part_zeroed, zeros_at}
use Rattle.cache.specs.Cache.{Given, events_of}
use Rattle.cache.proofs.GivenLaws.{events_one}
use Rattle.order.specs.declared.Order.{Order}
use Rattle.order.specs.Limits.{limits, sizes, span, stack_need, count_need}
use Rattle.sizes.specs.Size.{Size, empty_size, size_step}
use Rattle.order.proofs.LimitLaws.{need_spans}
use Rattle.sizes.proofs.SizeLaws.{size_over}
use Rattle.taking.specs.Places.{used_of}
use Rattle.taking.specs.World.{World, size_at}
use Rattle.taking.specs.Opening.{opened}
use Rattle.taking.specs.Taking.{events_in, taken, take_answer}
use Rattle.calls.proofs.PassedLaws.{passed, size_next, total_next, fitting_next}
use Rattle.calls.proofs.WorldLaws.{Fitted, fitted_back, size_back, blank_back}

pub record History (w : World) (past : List Given) : Type 0 where
  pub fitted : Fitted w
  pub size : (k : ℕ) → k < sizes w.state.order → size_at w k ≡ size_over w.state.order (events_of (w.state.order.bmin.0 + k) past)
  pub blank : (k j : ℕ) → k < sizes w.state.order → used_of w.state k ≤ j → j < w.state.order.room
      → get_or w.stacks (k * w.state.order.room + j) 0 ≡ 0

-- ---- at the start

pub history_start : (o : Order) (w : World) → All≤ (limits o) → stack_need o ≤ length w.stacks
    → count_need o ≤ length w.counts → History (opened o w) []
history_start o w f long wide = record {
  fitted = record {
    fit = record {
      numbers = f;
      long = rw (length_zeroed (stack_need o) w.stacks) long;
      wide = rw (length_zeroed (count_need o) w.counts) wide;
      used = λ k h. omega (arith, zeros_at 8 k);
      ceiling = omega arith;
    };
    eight = refl;
  };
  size = λ k h.
      ap₂ (λ (q c : List ℕ). size 0 q c)
      (ap (λ (n : ℕ). take n (drop (k * o.room) (zeroed (stack_need o) w.stacks))) (zeros_at 8 k))
      (part_zeroed (k * span o) (span o) (count_need o) w.counts (omega (arith, need_spans o, row_in k (sizes o) (span o) h)) wide);
  blank = λ k j h g u. get_d_zeroed (stack_need o) (k * o.room + j) w.stacks (omega (arith, row_in k (sizes o) o.room h));
}
  where
    size : ℕ → List ℕ → List ℕ → Size
    size n q c = record { total = n; stack = q; counts = c }

-- ---- after one more

module _ (w : World) (past : List Given) (i : History w past) (g : Given) where
  abbrev o : Order
  o = w.state.order

  -- the size after the events of g is the run's size with g more
  pub size_next_lem : (k : ℕ) → k < sizes o → size_next w g k ≡ size_over o (events_of (o.bmin.0 + k) (past ++ (g ∷ [])))
  size_next_lem k h =
      ap (λ (q : Size). after (size_step o) q (events_in w g k)) (i.size k h)
      ∙ sym (after_append (size_step o) (empty_size o) (events_of (o.bmin.0 + k) past) (events_in w g k))
      ∙ ap (size_over o) (sym (events_one (o.bmin.0 + k) past g))

  pub history_taken : take_answer w g ≡ 0 → History (taken w g) (past ++ (g ∷ []))
  history_taken e =
      let p = passed w g e in
      let fit = fitting_next w g i.fitted.fit p.roomy in
      record {
        fitted = fitted_back w i.fitted (size_next w g) fit (omega (arith, p.ceiling, total_next w g 0));
        size = λ k h. size_back w i.fitted (size_next w g) fit k h ∙ size_next_lem k h;
        blank = λ k j h past below. blank_back w i.fitted (size_next w g) fit k j h (λ u. i.blank k j h u below) past below;
      }
