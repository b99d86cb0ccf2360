-- Block sizes cut out of a world and put back: each is read back as it was put, and every entry that is no size's stays.
-- Assumes nothing.
use Prim.Native.Nat.{ℕ, ◌+◌, ◌-◌, ◌*◌, ◌≤◌, ◌<◌}
use mathlib.Core.Path.{◌≡◌, sym, ap, ap₂, ◌∙◌}
use mathlib.Core.List.{List}
use native.Mathlib.Omega.{arith}
use lib.Dec.{ltb}
use lib.ListN.{length, take, drop, get_or, replicate, get_or-replicate}
use lib.Seq.{take-append_seam, take-take, get_or-append-add}
use borrow.Author.Tests.{ltb-true, ltb-false}
use Rattle.lists.specs.Tables.{part, padded}
use Rattle.lists.proofs.Cases.{cases}
use Rattle.lists.proofs.PartLaws.{row_in, length_part, part_at, length_padded, length_rows, drop_rows, row_after, entry_after}
use Rattle.lists.proofs.PartLaws.{length_set_lengths, set_lengths_at}
use Rattle.order.specs.declared.Order.{Order}
use Rattle.order.specs.Limits.{sizes, span, stack_need, count_need}
use Rattle.sizes.specs.Size.{Size}
use Rattle.order.proofs.LimitLaws.{need_spans}
use Rattle.taking.specs.Places.{used_of}
use Rattle.taking.specs.Parts.{Fit}
use Rattle.taking.specs.World.{World, size_at, with_sizes}

-- refusals 1 to 4 do not apply
abbrev pub Fits : World → Type 0
Fits w = Fit w.state (length w.stacks) (length w.counts)

-- and the state has its eight used lengths
pub record Fitted (w : World) : Type 0 where
  pub fit : Fits w
  pub eight : length w.state.used ≡ 8

-- block sizes that can be put back
pub record Fitting (w : World) (f : ℕ → Size) : Type 0 where
  pub total : (k : ℕ) → k < sizes w.state.order → (f k).total ≡ (f 0).total
  pub stack : (k : ℕ) → k < sizes w.state.order → length (f k).stack ≤ w.state.order.room
  pub counts : (k : ℕ) → k < sizes w.state.order → length (f k).counts ≡ span w.state.order

abbrev size : ℕ → List ℕ → List ℕ → Size
size n q c = record { total = n; stack = q; counts = c }

-- the stack of size k as it is put back: what it had used and has no more is zero
abbrev top_of : World → (ℕ → Size) → ℕ → List ℕ
top_of w f k = padded (used_of w.state k) (f k).stack

module _ (w : World) (t : Fits w) where
  -- the stack and the counts of a size
  pub length_at : (k : ℕ) → k < sizes w.state.order → length (size_at w k).stack ≡ used_of w.state k
  length_at k h =
      length_part (k * w.state.order.room) (used_of w.state k) w.stacks
      (omega (arith, row_in k (sizes w.state.order) w.state.order.room h, t.long, t.used k h))

  pub span_at : (k : ℕ) → k < sizes w.state.order → length (size_at w k).counts ≡ span w.state.order
  span_at k h =
      length_part (k * span w.state.order) (span w.state.order) w.counts
      (omega (arith, row_in k (sizes w.state.order) (span w.state.order) h, t.wide, need_spans w.state.order))

  module _ (f : ℕ → Size) (g : Fitting w f) where
    top_fits : (k : ℕ) → k < sizes w.state.order → length (top_of w f k) ≤ w.state.order.room
    top_fits k h = omega (arith, length_padded (used_of w.state k) (f k).stack, g.stack k h, t.used k h)

    spans_fit : sizes w.state.order * span w.state.order ≤ length w.counts
    spans_fit = omega (arith, t.wide, need_spans w.state.order)

    span_fits : (k : ℕ) → k < sizes w.state.order → length (f k).counts ≤ span w.state.order
    span_fits k h = omega (arith, g.counts k h)

    -- entries past what the order needs stay
    pub stacks_past : drop (stack_need w.state.order) (with_sizes w f).stacks ≡ drop (stack_need w.state.order) w.stacks
    stacks_past =
        drop_rows w.state.order.room (top_of w f) w.stacks (sizes w.state.order) t.long top_fits (sizes w.state.order) (omega arith)

    pub counts_past : drop (count_need w.state.order) (with_sizes w f).counts ≡ drop (count_need w.state.order) w.counts
    counts_past =
        rw (need_spans w.state.order)
        (drop_rows (span w.state.order) (λ (k : ℕ). (f k).counts) w.counts (sizes w.state.order) spans_fit span_fits
        (sizes w.state.order) (omega arith))

module _ (w : World) (s : Fitted w) where
  module _ (f : ℕ → Size) (g : Fitting w f) where
    abbrev o : Order
    o = w.state.order

    abbrev top : ℕ → List ℕ
    top = top_of w f

    fits : (k : ℕ) → k < sizes o → length (top k) ≤ o.room
    fits = top_fits w s.fit f g

    wide : sizes o * span o ≤ length w.counts
    wide = spans_fit w s.fit f g

    narrow : (k : ℕ) → k < sizes o → length (f k).counts ≤ span o
    narrow = span_fits w s.fit f g

    few : sizes o ≤ length w.state.used
    few = omega (arith, s.fit.numbers, s.eight)

    pub used_back : (k : ℕ) → k < sizes o → used_of (with_sizes w f).state k ≡ length (f k).stack
    used_back k h = set_lengths_at (λ (k : ℕ). (f k).stack) (sizes o) k w.state.used few h

    pub fitted_back : (f 0).total ≤ o.refs → Fitted (with_sizes w f)
    fitted_back below = record {
      fit = record {
        numbers = s.fit.numbers;
        long = rw (length_rows o.room top w.stacks (sizes o) s.fit.long fits (sizes o) (omega arith)) s.fit.long;
        wide = rw (length_rows (span o) (λ (k : ℕ). (f k).counts) w.counts (sizes o) wide narrow (sizes o) (omega arith)) s.fit.wide;
        used = λ k h. rw (used_back k h) (g.stack k h);
        ceiling = below;
      };
      eight = length_set_lengths (λ (k : ℕ). (f k).stack) (sizes o) w.state.used ∙ s.eight;
    }

    stack_back : (k : ℕ) → k < sizes o → (size_at (with_sizes w f) k).stack ≡ (f k).stack
    stack_back k h =
        let under : length (f k).stack ≤ length (top k) = omega (arith, length_padded (used_of w.state k) (f k).stack) in
        ap (λ (n : ℕ). part (k * o.room) n (with_sizes w f).stacks) (used_back k h)
        ∙ sym (take-take (length (f k).stack) (length (top k)) (drop (k * o.room) (with_sizes w f).stacks) under)
        ∙ ap (take (length (f k).stack)) (row_after o.room top w.stacks (sizes o) s.fit.long fits (sizes o) k (omega arith) h)
        ∙ take-append_seam (f k).stack (replicate (used_of w.state k - length (f k).stack) 0)

    counts_back : (k : ℕ) → k < sizes o → (size_at (with_sizes w f) k).counts ≡ (f k).counts
    counts_back k h =
        ap (λ (n : ℕ). part (k * span o) n (with_sizes w f).counts) (sym (g.counts k h))
        ∙ row_after (span o) (λ (k : ℕ). (f k).counts) w.counts (sizes o) wide narrow (sizes o) k (omega arith) h

    -- THE LAW
    pub size_back : (k : ℕ) → k < sizes o → size_at (with_sizes w f) k ≡ f k
    size_back k h =
        ap (λ (n : ℕ). size n (size_at (with_sizes w f) k).stack (size_at (with_sizes w f) k).counts) (sym (g.total k h))
        ∙ ap₂ (λ (q c : List ℕ). size (f k).total q c) (stack_back k h) (counts_back k h)

    -- where all beyond the used lengths was zero, it still is
    pub blank_back : (k j : ℕ) → k < sizes o → (used_of w.state k ≤ j → get_or w.stacks (k * o.room + j) 0 ≡ 0)
        → used_of (with_sizes w f).state k ≤ j → j < o.room → get_or (with_sizes w f).stacks (k * o.room + j) 0 ≡ 0
    blank_back k j h was past below =
        let from : length (f k).stack ≤ j = rw (← used_back k h) past in
        let long = length_padded (used_of w.state k) (f k).stack in
        cases (ltb j (length (top k)))
        (λ t.
        let in_top = ltb-true j (length (top k)) t in
        let i = j - length (f k).stack in
        let back : length (f k).stack + (j - length (f k).stack) ≡ j = omega arith in
        sym (part_at (k * o.room) (length (top k)) (with_sizes w f).stacks j in_top)
        ∙ ap (λ (q : List ℕ). get_or q j 0) (row_after o.room top w.stacks (sizes o) s.fit.long fits (sizes o) k (omega arith) h)
        ∙ ap (λ (n : ℕ). get_or (top k) n 0) (sym back)
        ∙ get_or-append-add (f k).stack (replicate (used_of w.state k - length (f k).stack) 0) i 0
        ∙ get_or-replicate (used_of w.state k - length (f k).stack) i 0 0 (omega arith))
        (λ t.
        let beyond = ltb-false j (length (top k)) t in
        entry_after o.room top w.stacks (sizes o) s.fit.long fits (sizes o) k j (omega arith) h beyond below
        ∙ was (omega arith))
