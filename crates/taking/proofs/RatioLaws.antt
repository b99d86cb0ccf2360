-- Laws of the two ratios: the three outcomes; then, of ratios that are given, that the miss ratio is at most one and the traffic ratio
-- exactly 2^b times it, so that no NaN and no infinity comes. Not here: rounding (RoundingLaws). Assumes nothing.
use Prim.Native.Nat.{ℕ, ◌^◌, ◌≤◌}
use mathlib.Core.Path.{◌≡◌, refl, sym, ap, subst}
use mathlib.Core.Bool.{false}
use mathlib.Core.List.{List}
use native.Mathlib.Omega.{arith}
use borrow.Author.Tests.{ne_eqb, eqb-true, eqb-false}
use lib.Dec.{T, eqb}
use lib.IntN.{pos}
use lib.ListN.{length}
use lib.Ieee.{fin, binary64, of_bits, le}
use Rattle.lists.proofs.Cases.{cases, picked}
use Rattle.lists.proofs.TestLaws.{none_first}
use Rattle.taking.specs.Questions.{Counted, misses_answer, misses_of}
use Rattle.taking.specs.Ratios.{Rated, ratios_at, ratios_answer, ratios_from, ratios_of}
use Rattle.taking.specs.declared.Opened.{Opened}
use Rattle.taking.specs.declared.Ratios.{Ratios}
use Rattle.taking.proofs.QuestionLaws.{asked_of, early_none}
use Rattle.taking.proofs.RoundingLaws.{positive_zero, Times, traffic_times, part_at_most_one}

-- ---- the three outcomes

-- the code's 0.0, twice
abbrev pub zeros : Ratios
zeros = record { miss = of_bits binary64 0; traffic = of_bits binary64 0 }

-- where misses answers r, as its contract c says, with n references taken and blocks of 2^b bytes
module _ (c r : Counted) (n b : ℕ) (e : r ≡ c) where
  pub rated_refused : (r.answer ≡ 0 → ⊥) → ◌≡◌ {A = Rated} (record { state = c.state; answer = r.answer; ratios = zeros }) (ratios_from c n b)
  rated_refused h = rw (← e) (simp (ne_eqb r.answer 0 h, positive_zero))

  pub rated_given : r.answer ≡ 0 → (n ≡ 0 → ⊥)
      → ◌≡◌ {A = Rated} (record { state = c.state; answer = 0; ratios = ratios_at r.misses n b }) (ratios_from c n b)
  rated_given h z = rw (← e) (simp (h, ne_eqb n 0 z))

given_facts : (c : Counted) (n : ℕ) → ratios_answer c n ≡ 0 → (c.answer ≡ 0) × (n ≡ 0 → ⊥)
given_facts c n h =
    cases (eqb c.answer 0)
    (λ e. (eqb-true c.answer 0 e, eqb-false n 0 (none_first (eqb n 0) 8 0 (simp e at h)).0))
    (λ e. let z : c.answer ≡ 0 = simp e at h in absurd (eqb-false c.answer 0 e z))

-- ---- what misses' answer of 0 says of the numbers

module _ (v : Opened) (ct : List ℕ) (b s w : ℕ) (counted : misses_answer v ct b s w ≡ 0) where
  pub counted_small : (b ≤ 12) × (v.taken ≤ 4000000000)
  counted_small =
      let q = asked_of v (length ct) b s w (early_none v ct b s w counted) in
      (omega (arith, q.there, q.numbers), omega (arith, q.ceiling, q.numbers))

-- ---- ratios that are given

module _ (v : Opened) (ct : List ℕ) (b s w : ℕ) (given : (ratios_of v ct b s w).answer ≡ 0) where
  counted_given : (misses_answer v ct b s w ≡ 0) × (v.taken ≡ 0 → ⊥)
  counted_given = given_facts (misses_of v ct b s w) v.taken given

  ratios_given : (ratios_of v ct b s w).ratios ≡ ratios_at (misses_of v ct b s w).misses v.taken b
  ratios_given =
      sym (ap (λ (x : Rated). x.ratios) (rated_given (misses_of v ct b s w) (misses_of v ct b s w) v.taken b refl counted_given.0
      counted_given.1))

  misses_le_taken : (misses_of v ct b s w).misses ≤ v.taken
  misses_le_taken = picked (λ (n : ℕ). n ≤ v.taken) (eqb (misses_answer v ct b s w) 0) (λ e. omega arith) (λ e. omega arith)

  pub miss_at_most_one : T (le (ratios_of v ct b s w).ratios.miss (fin false 1 (pos 0)))
  miss_at_most_one =
      subst (λ (x : Ratios). T (le x.miss (fin false 1 (pos 0)))) (sym ratios_given)
      (part_at_most_one (misses_of v ct b s w).misses v.taken misses_le_taken (omega (arith, counted_given.1)))

  pub traffic_exactly_times : Times (2 ^ b) (ratios_of v ct b s w).ratios.miss (ratios_of v ct b s w).ratios.traffic
  traffic_exactly_times =
      let small = counted_small v ct b s w counted_given.0 in
      subst (λ (x : Ratios). Times (2 ^ b) x.miss x.traffic) (sym ratios_given)
      (traffic_times (misses_of v ct b s w).misses v.taken b (omega (arith, misses_le_taken, small.1)) (omega (arith, small.1))
      (omega (arith, counted_given.1)) small.0)
