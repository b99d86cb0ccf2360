-- What any strip within its contract leaves, refused or done; and what a stripped list is good for (demand 3): over addresses, at one
-- block size, for every list and every cache with at least as many sets and one way or more. Assumes nothing.
use Prim.Native.Nat.{ℕ, suc, ◌^◌, ◌≤◌}
use mathlib.Core.Path.{◌≡◌, sym, ap, ap₂, ◌∙◌}
use mathlib.Core.List.{List, map}
use native.Mathlib.Omega.{arith}
use lib.ListN.{length, take, drop}
use lib.Seq.{take-append_seam}
use borrow.Author.Tests.{ne_eqb}
use Rattle.lists.specs.Runs.{without, Each}
use Rattle.lists.specs.Sums.{total}
use Rattle.lists.specs.Tables.{zeroed}
use Rattle.lists.proofs.RunLaws.{without_map}
use Rattle.lists.proofs.TestLaws.{settled_done, settled_not}
use Rattle.cache.specs.Cache.{Given, ref, is_hit, missed, events_of, simulate, touches_of, misses_over}
use Rattle.cache.proofs.InclusionLaws.{HitToo}
use Rattle.cache.proofs.GivenLaws.{event_of, events_are}
use Rattle.cache.proofs.StripLaws.{strip_kept_lem, strip_dropped, strip_misses}
use Rattle.units.specs.Refusals.{done, short_output}
use Rattle.strip.specs.Joined.{kept_in}
use Rattle.strip.specs.Strip.{Stripped, kept_of, strip_answer, Strips}

-- ---- what any strip within its contract leaves

module _ {l : List ℕ} {b s : ℕ} {table out : List ℕ} {r : Stripped} {table' out' : List ℕ} (c : Strips l b s table out r table' out') where
  -- refused: zero beside the number, and the output as it was
  pub strip_refused : (r.answer ≡ done → ⊥) → (r.kept ≡ 0) × (out' ≡ out)
  strip_refused ne =
      let refused : strip_answer l b s table out ≡ 0 → ⊥ = λ z. ne (c.answer ∙ z) in
      (c.kept ∙ settled_not (strip_answer l b s table out) _ _ refused, c.output ∙ settled_not (strip_answer l b s table out) _ _ refused)

  -- with 13 the filter's first 2^s entries are zero, and with another number it is as it was
  pub strip_short : r.answer ≡ short_output → table' ≡ zeroed (2 ^ s) table
  strip_short e =
      let given = sym c.answer ∙ e in
      c.filter ∙ settled_not (strip_answer l b s table out) _ _ (λ z. omega arith) ∙ simp given

  pub strip_untouched : (r.answer ≡ done → ⊥) → (r.answer ≡ short_output → ⊥) → table' ≡ table
  strip_untouched ne nf =
      let other = ne_eqb (strip_answer l b s table out) short_output (λ z. nf (c.answer ∙ z)) in
      c.filter ∙ settled_not (strip_answer l b s table out) _ _ (λ z. ne (c.answer ∙ z)) ∙ simp other

  -- done: the references left are exactly those that miss in the direct-mapped cache, in order
  pub left_is_kept : r.answer ≡ done → take r.kept out' ≡ kept_of b s l
  left_is_kept a =
      let e = sym c.answer ∙ a in
      let many = c.kept ∙ settled_done (strip_answer l b s table out) _ _ e in
      let front = c.output ∙ settled_done (strip_answer l b s table out) _ _ e in
      ap₂ take many front ∙ take-append_seam (kept_of b s l) (drop (length (kept_of b s l)) out)

-- ---- what it is good for

-- the events of what is kept are what is kept of the events
pub events_kept : (b s : ℕ) (l : List Given) → events_of b (kept_in b s l) ≡ without is_hit (simulate s 1 (events_of b l)) (events_of b l)
events_kept b s l =
    events_are b (kept_in b s l)
    ∙ without_map is_hit (event_of b) (simulate s 1 (events_of b l)) l
    ∙ ap (without is_hit (simulate s 1 (events_of b l))) (sym (events_are b l))

touches_kept : (b s : ℕ) (l : List ℕ) → touches_of b (kept_of b s l) ≡ without is_hit (simulate s 1 (touches_of b l)) (touches_of b l)
touches_kept b s l = ap (events_of b) (without_map is_hit ref (simulate s 1 (touches_of b l)) l) ∙ events_kept b s (map ref l)

module _ (b s s' w : ℕ) (more : s ≤ s') (l : List ℕ) where
  -- each kept reference hits or misses as it did in the full list
  pub kept_as_before : simulate s' (suc w) (touches_of b (kept_of b s l))
      ≡ without is_hit (simulate s 1 (touches_of b l)) (simulate s' (suc w) (touches_of b l))
  kept_as_before = ap (simulate s' (suc w)) (touches_kept b s l) ∙ strip_kept_lem s s' w more (touches_of b l)

  -- each dropped one was a hit
  pub dropped_hit : Each HitToo (simulate s 1 (touches_of b l)) (simulate s' (suc w) (touches_of b l))
  dropped_hit = strip_dropped s s' w more (touches_of b l)

  -- so the misses are as many
  pub misses_same : misses_over b s' (suc w) (map ref (kept_of b s l)) ≡ misses_over b s' (suc w) (map ref l)
  misses_same =
      ap (λ es. total missed (simulate s' (suc w) es)) (touches_kept b s l) ∙ strip_misses s s' w more (touches_of b l)
