-- Laws of the questions: what refusals 1, 3, 4 and 8 leave, the three outcomes of misses, and where the counts that it sums stand in the table.
-- Assumes nothing.
use Prim.Native.Nat.{ℕ, ◌+◌, ◌-◌, ◌*◌, ◌≤◌, ◌<◌}
use mathlib.Core.Path.{◌≡◌, refl, sym, ap, ◌∙◌}
use mathlib.Core.Bool.{Bool, true, false, cond, not}
use mathlib.Core.List.{List, [], ◌∷◌}
use native.Mathlib.Omega.{arith}
use lib.Dec.{eqb, ltb}
use lib.ListN.{length, get_or}
use borrow.Author.Tests.{eqb-true, ne_eqb, lt-ltb, le-ltb, ltb-false, not-false}
use Rattle.lists.specs.Sums.{sum_to}
use Rattle.lists.specs.Tests.{All≤, any_to}
use Rattle.lists.proofs.BoolLaws.{or_none}
use Rattle.lists.proofs.PartLaws.{part_at}
use Rattle.lists.proofs.RaiseLaws.{cell_in, cell_in_group, cell_end}
use Rattle.lists.proofs.SumLaws.{sum_to_same}
use Rattle.lists.proofs.TestLaws.{are_given, first_then, all_facts, none_first}
use Rattle.units.specs.Refusals.{count_over}
use Rattle.order.specs.Limits.{limits, within, sizes, rows, span, count_need}
use Rattle.taking.specs.Places.{cell, used_of, counts_at}
use Rattle.taking.specs.Parts.{unaskable}
use Rattle.taking.specs.Questions.{Counted, asked, has, hits_of, misses_answer, misses_of}
use Rattle.taking.specs.Taking.{is_foreign}
use Rattle.taking.specs.declared.Opened.{Opened}

-- ---- what refusals 1, 3, 4 and 8 leave

pub record Asked (v : Opened) (m b s w : ℕ) : Type 0 where
  pub numbers : All≤ (limits v.order)
  pub wide : count_need v.order ≤ m
  pub ceiling : v.taken ≤ v.order.refs
  pub there : All≤ (asked v.order b s w)

pub asked_of : (v : Opened) (m b s w : ℕ) → unaskable v m b s w ≡ 0 → Asked v m b s w
asked_of v m b s w e =
    let first = none_first (not (within v.order)) 0 _ e in
    let second = none_first (ltb m (count_need v.order)) 2 _ first.1 in
    let third = none_first (is_foreign v) 3 _ second.1 in
    let fourth = none_first (not (has v.order b s w)) 7 0 third.1 in
    let own = or_none (any_to (sizes v.order) (λ (k : ℕ). ltb v.order.room (used_of v k))) (ltb v.order.refs v.taken) third.0 in
    record {
      numbers = all_facts (limits v.order) (not-false (within v.order) first.0);
      wide = ltb-false m (count_need v.order) second.0;
      ceiling = ltb-false v.order.refs v.taken own.1;
      there = all_facts (asked v.order b s w) (not-false (has v.order b s w) fourth.0);
    }

-- ---- the outcomes

module _ (v : Opened) (ct : List ℕ) (b s w : ℕ) where
  abbrev early : ℕ
  early = unaskable v (length ct) b s w

  answer_is : misses_answer v ct b s w ≡ cond (eqb early 0) (cond (ltb v.taken (hits_of v ct b s w)) 7 0) early
  unfolding are_given
  answer_is =
      first_then
      ((not (within v.order), 1)
      ∷ (ltb (length ct) (count_need v.order), 3)
      ∷ (is_foreign v, 4)
      ∷ (not (has v.order b s w), 8)
      ∷ [])
      ((ltb v.taken (hits_of v ct b s w), 7) ∷ []) refl

  pub early_none : misses_answer v ct b s w ≡ 0 → early ≡ 0
  early_none e = none (eqb early 0) early refl (sym answer_is ∙ e)
    where
      none : (t : Bool) (n : ℕ) → eqb n 0 ≡ t → cond t (cond (ltb v.taken (hits_of v ct b s w)) 7 0) n ≡ 0 → n ≡ 0
      none true n h z = eqb-true n 0 h
      none false n h z = z

  abbrev outcome : ℕ → Counted
  outcome n = record { state = v; answer = n; misses = cond (eqb n 0) (v.taken - hits_of v ct b s w) 0 }

  pub misses_refused : (r : ℕ) → r ≡ early → (r ≡ 0 → ⊥) → ◌≡◌ {A = Counted} (record { state = v; answer = r; misses = 0 }) (misses_of v ct b s w)
  misses_refused r e ne =
      let some = ne_eqb r 0 ne in
      let over : ℕ = cond (ltb v.taken (hits_of v ct b s w)) 7 0 in
      let same : misses_answer v ct b s w ≡ r
      = answer_is ∙ ap (λ (n : ℕ). cond (eqb n 0) over n) (sym e) ∙ ap (λ (t : Bool). cond t over r) some in
      sym (ap outcome same ∙ ap (λ (t : Bool). record { state = v; answer = r; misses = cond t (v.taken - hits_of v ct b s w) 0 }) some)

  pub misses_over_lem : early ≡ 0 → v.taken < hits_of v ct b s w
      → ◌≡◌ {A = Counted} (record { state = v; answer = count_over; misses = 0 }) (misses_of v ct b s w)
  misses_over_lem e h = sym (ap outcome (answer_is ∙ simp (e, lt-ltb v.taken (hits_of v ct b s w) h)))

  pub misses_given : early ≡ 0 → hits_of v ct b s w ≤ v.taken
      → ◌≡◌ {A = Counted} (record { state = v; answer = 0; misses = v.taken - hits_of v ct b s w }) (misses_of v ct b s w)
  misses_given e h = sym (ap outcome (answer_is ∙ simp (e, le-ltb v.taken (hits_of v ct b s w) h)))

-- ---- the places

module _ (v : Opened) (m b s w : ℕ) (q : Asked v m b s w) where
  abbrev size : ℕ
  size = b - v.order.bmin.0

  -- THE PLACE of the count for (b, s, d) is ((b - bmin) * (smax + 1) + s) * ways + d
  pub hits_at_places : (ct : List ℕ) → hits_of v ct b s w ≡ sum_to (λ (d : ℕ). get_or ct (cell v.order size s d) 0) w
  hits_at_places ct =
      sum_to_same (λ (d : ℕ). get_or (counts_at v ct size) (s * v.order.ways + d) 0) (λ (d : ℕ). get_or ct (cell v.order size s d) 0) w stands
    where
      stands : (d : ℕ) → d < w → get_or (counts_at v ct size) (s * v.order.ways + d) 0 ≡ get_or ct (cell v.order size s d) 0
      stands d h =
          part_at (size * span v.order) (span v.order) ct (s * v.order.ways + d)
          (cell_in v.order.ways s (rows v.order) d (omega (arith, q.there)) (omega (arith, q.there)))
          ∙ ap (λ (j : ℕ). get_or ct j 0) (sym (cell_in_group (rows v.order) v.order.ways size s d))

  -- they are in the table
  pub places_fit : (size * rows v.order + s < sizes v.order * rows v.order)
      × ((size * rows v.order + s) * v.order.ways + w ≤ count_need v.order)
  places_fit =
      cell_end (sizes v.order) (rows v.order) v.order.ways size s w
      (omega (arith, q.there, q.numbers)) (omega (arith, q.there)) (omega (arith, q.there))
