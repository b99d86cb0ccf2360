-- What the questions answer after an opening: 0 inside the order and 8 outside, 9 for ratios of nothing; the misses are those of each cache by
-- itself, and the ratios are theirs. Assumes nothing.
use Prim.Native.Nat.{ℕ, ◌+◌, ◌-◌, ◌≤◌, ◌<◌}
use mathlib.Core.Path.{◌≡◌, ap, ap₂, ◌∙◌}
use mathlib.Core.Bool.{true, false, cond, not}
use mathlib.Core.List.{List, [], ◌∷◌}
use native.Mathlib.Omega.{arith}
use lib.Dec.{eqb}
use lib.ListN.{length}
use borrow.Author.Tests.{le-ltb, ne_eqb}
use Rattle.lists.specs.Tests.{All≤, first_of}
use Rattle.lists.proofs.Cases.{cases}
use Rattle.lists.proofs.TestLaws.{all_yes, all_facts}
use Rattle.cache.specs.Cache.{Given, events_of, misses_over}
use Rattle.order.specs.declared.Order.{Order}
use Rattle.order.specs.Limits.{limits, sizes, rows, count_need}
use Rattle.sizes.specs.Size.{Size, hits_in}
use Rattle.sizes.proofs.SizeLaws.{size_over, size_misses, size_hits}
use Rattle.taking.specs.Questions.{Counted, asked, has, hits_of, misses_answer, misses_of}
use Rattle.taking.specs.Ratios.{ratios_of, ratios_at, no_ratios}
use Rattle.taking.specs.World.{World, size_at}
use Rattle.taking.proofs.NeedLaws.{own_of}
use Rattle.calls.proofs.HistoryLaws.{History}

module _ (w : World) (past : List Given) (i : History w past) (b s n : ℕ) where
  abbrev o : Order
  o = w.state.order

  -- outside the order: 8
  pub misses_outside : has o b s n ≡ false → misses_answer w.state w.counts b s n ≡ 8
  misses_outside h =
      simp (
        all_yes (limits o) i.fitted.fit.numbers,
        le-ltb (length w.counts) (count_need o) i.fitted.fit.wide,
        own_of w.state (length w.stacks) (length w.counts) i.fitted.fit,
        h,
      )

  -- inside it: 0, and the misses of that one cache
  module _ (h : has o b s n ≡ true) where
    q : All≤ (asked o b s n)
    q = all_facts (asked o b s n) h

    in_sizes : b - o.bmin.0 < sizes o
    in_sizes = omega (arith, q)

    in_rows : s < rows o
    in_rows = omega (arith, q)

    in_ways : n ≤ o.ways
    in_ways = omega (arith, q)

    same : o.bmin.0 + (b - o.bmin.0) ≡ b
    same = omega (arith, q)

    here : size_at w (b - o.bmin.0) ≡ size_over o (events_of b past)
    here = i.size (b - o.bmin.0) in_sizes ∙ ap (λ (c : ℕ). size_over o (events_of c past)) same

    hits : hits_of w.state w.counts b s n ≡ hits_in o (size_over o (events_of b past)).counts s n
    hits = ap (λ (z : Size). hits_in o z.counts s n) here

    few_hits : hits_of w.state w.counts b s n ≤ w.state.taken
    few_hits = let t = ap (λ (z : Size). z.total) here in omega (arith, hits, size_hits o (events_of b past) s n in_rows in_ways, t)

    zero_answer : misses_answer w.state w.counts b s n ≡ 0
    zero_answer =
        simp (
          all_yes (limits o) i.fitted.fit.numbers,
          le-ltb (length w.counts) (count_need o) i.fitted.fit.wide,
          own_of w.state (length w.stacks) (length w.counts) i.fitted.fit,
          h,
          le-ltb w.state.taken (hits_of w.state w.counts b s n) few_hits,
        )

    misses_after : (misses_of w.state w.counts b s n).misses ≡ misses_over b s n past
    misses_after =
        ap (λ (m : ℕ). cond (eqb m 0) (w.state.taken - hits_of w.state w.counts b s n) 0) zero_answer
        ∙ ap₂ ◌-◌ (ap (λ (q : Size). q.total) here) hits
        ∙ size_misses o (events_of b past) s n in_rows in_ways

  -- THE ANSWERS: 4 and 7 are not among them
  pub misses_answered : misses_answer w.state w.counts b s n ≡ cond (has o b s n) 0 8
  misses_answered = cases (has o b s n) (λ h. zero_answer h ∙ simp h) (λ h. misses_outside h ∙ simp h)

  -- so any question within its contract, of a cache of the order
  pub misses_are : has o b s n ≡ true → (q : Counted) → q ≡ misses_of w.state w.counts b s n
      → (q.answer ≡ 0) × (q.misses ≡ misses_over b s n past)
  misses_are h q e = (ap (λ (q : Counted). q.answer) e ∙ zero_answer h, ap (λ (q : Counted). q.misses) e ∙ misses_after h)

  -- 9 where no references are taken
  abbrev rating : ℕ → ℕ
  rating m = first_of ((not (eqb m 0), m) ∷ (eqb w.state.taken 0, 9) ∷ [])

  pub ratios_answered : (ratios_of w.state w.counts b s n).answer ≡ cond (has o b s n) (cond (eqb w.state.taken 0) 9 0) 8
  ratios_answered = ap rating misses_answered ∙ cases (has o b s n) (λ h. simp h) (λ h. simp h)

  -- the ratios of the misses and the references taken
  pub ratios_after : has o b s n ≡ true → (w.state.taken ≡ 0 → ⊥)
      → (ratios_of w.state w.counts b s n).ratios ≡ ratios_at (misses_over b s n past) w.state.taken b
  ratios_after h ne =
      let given : (ratios_of w.state w.counts b s n).answer ≡ 0 = ratios_answered ∙ simp (h, ne_eqb w.state.taken 0 ne) in
      ap (λ (m : ℕ). cond (eqb m 0) (ratios_at (misses_of w.state w.counts b s n).misses w.state.taken b) no_ratios) given
      ∙ ap (λ (m : ℕ). ratios_at m w.state.taken b) (misses_after h)
