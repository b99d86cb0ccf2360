-- The questions (SCOPE, "Questions"): misses, refused with 1, 3, 4, 8, 7 in that order; then 9 for the ratios. Assumes nothing.
use Rattle.std.specs.Prelude.{ℕ, ◌-◌, Bool, cond, not, Result, List, [], ◌∷◌, eqb, ltb, length}
use Rattle.std.specs.Result.{result_unwrap_or}
use Rattle.lists.specs.Tests.{first_of, all_le}
use Rattle.units.specs.Refusals.{outside_limits, short_counts, foreign_state, not_in_order, count_over, answer_of}
use Rattle.units.specs.declared.refusal.Refusal.{Refusal}
use Rattle.order.specs.declared.Order.{Order}
use Rattle.order.specs.Limits.{within, count_need}
use Rattle.sizes.specs.Size.{hits_in}
use Rattle.taking.specs.Places.{counts_at}
use Rattle.taking.specs.Taking.{is_foreign}
use Rattle.taking.specs.declared.Opened.{Opened}
use Rattle.taking.specs.declared.Reply.{Reply}

-- how often a cache missed, beside the answer number: 0 where that is not 0. The state is as it was handed in
pub record Counted : Type 0 where
  pub state : Opened
  pub answer : ℕ
  pub misses : ℕ

-- a state beside an answer
abbrev pub replied : {A : Type 0} → Opened → Result A Refusal → Reply A
replied v r = record { state = v; answer = r }

-- what is handed back, as the document has it: 0 or the number of a refusal, and zero misses beside one
abbrev pub counted : Reply ℕ → Counted
counted r = record { state = r.state; answer = answer_of r.answer; misses = result_unwrap_or r.answer 0 }

-- the order has (b, s, w): in each pair the first is at most the second
abbrev pub asked : Order → ℕ → ℕ → ℕ → List (ℕ × ℕ)
asked o b s w = (o.bmin.0, b) ∷ (b, o.bmax.0) ∷ (s, o.smax) ∷ (1, w) ∷ (w, o.ways) ∷ []

abbrev pub has : Order → ℕ → ℕ → ℕ → Bool
has o b s w = all_le (asked o b s w)

-- the hits to be summed: at the block size, the counts at depths 0 to w - 1
abbrev pub hits_of : Opened → List ℕ → ℕ → ℕ → ℕ → ℕ
hits_of v ct b s w = hits_in v.order (counts_at v ct (b - v.order.bmin.0)) s w

-- the first of 1, 3, 4, 8, 7 that applies, else 0
abbrev pub misses_answer : Opened → List ℕ → ℕ → ℕ → ℕ → ℕ
misses_answer v ct b s w =
    first_of
    ((not (within v.order), outside_limits)
    ∷ (ltb (length ct) (count_need v.order), short_counts)
    ∷ (is_foreign v, foreign_state)
    ∷ (not (has v.order b s w), not_in_order)
    ∷ (ltb v.taken (hits_of v ct b s w), count_over)
    ∷ [])

-- the state as it was handed in, refused or not; the references taken less the hits, zero beside a refusal
abbrev pub misses_of : Opened → List ℕ → ℕ → ℕ → ℕ → Counted
misses_of v ct b s w = record {
  state = v;
  answer = misses_answer v ct b s w;
  misses = cond (eqb (misses_answer v ct b s w) 0) (v.taken - hits_of v ct b s w) 0;
}
