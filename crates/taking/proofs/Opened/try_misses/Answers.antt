-- `try_misses` meets its contract: refused early, refused by the hits, or given. Assumes nothing.
use Prim.Native.Nat.{ℕ, ◌+◌, ◌-◌, ◌*◌, ◌≤◌, ◌<◌}
use mathlib.Core.Path.{◌≡◌, sym, ◌∙◌}
use native.Mathlib.Omega.{arith}
use native.Mathlib.Nat.{add-sub_cancel_left}
use lib.ListN.{length, length-take}
use Rattle.lists.proofs.SumLaws.{sum_part}
use Rattle.std.specs.Prelude.{Option, None, Result, Err}
use Rattle.std.specs.Option.{ok_or}
use Rattle.std.proofs.lemmas.Result.{err_from_is_err_and}
use Rattle.order.specs.Limits.{rows}
use Rattle.order.proofs.LimitLaws.{needs_small}
use Rattle.units.specs.declared.refusal.Refusal.{Refusal}
use Rattle.units.specs.declared.refusal.Refusal.TheVariants.{CountOver}
use Rattle.taking.specs.Parts.{unaskable}
use Rattle.taking.specs.Questions.{hits_of}
use Rattle.taking.proofs.QuestionLaws.{Asked, asked_of, misses_over_lem, misses_given, hits_at_places, places_fit}
use Rattle.taking.proofs.Opened.try_misses.Goals as goal
use Rattle.taking.proofs.Opened.try_misses.Goals.{After-rows, After-summed-hits}

-- the refusal that stands for nothing
refused_as : (r : Option ℕ) (e d : Refusal) → r ≡ None → ◌≡◌ {A = Result ℕ Refusal} (Err e) (ok_or r d) → e ≡ d
refused_as r e d none h = cc

-- what refusals 1, 3, 4 and 8 leave, before the counts are summed and after
asked : (c : After-rows) → let a = c.args in Asked a.self.now (length a.counts.now) a.cache.b.0 a.cache.s a.cache.w
asked c = asked_of c.args.self.now _ _ _ _ (sym c.in_ok-unasked.ensures)

passed : (c : After-summed-hits) → let a = c.args in unaskable a.self.now (length a.counts.now) a.cache.b.0 a.cache.s a.cache.w ≡ 0
passed c = sym c.in_ok-unasked.ensures

-- the counts that are summed are in the table, in one of its few rows
inside : (c : After-rows) →
    let a = c.args in
    let row = (a.cache.b.0 - a.self.now.order.bmin.0) * c.rows.result + a.cache.s in
    (row < 120) × (row * a.self.now.order.ways + a.cache.w ≤ length a.counts.now)
inside c =
    let a = c.args in
    let o = a.self.now.order in
    let q = asked c in
    let few = (needs_small o q.numbers).rows in
    let fit = places_fit a.self.now (length a.counts.now) a.cache.b.0 a.cache.s a.cache.w q in
    rw c.rows.ensures (omega arith, omega (arith, q.wide))

-- and they are the hits
hits : (c : After-summed-hits) → let a = c.args in c.summed-hits.result ≡ hits_of a.self.now a.counts.now a.cache.b.0 a.cache.s a.cache.w
hits c =
    let a = c.args in
    let o = a.self.now.order in
    let n = length a.counts.now in
    let q = asked_of a.self.now n _ _ _ (passed c) in
    let fit = places_fit a.self.now n a.cache.b.0 a.cache.s a.cache.w q in
    rw (c.rows.ensures, add-sub_cancel_left) at c.summed-hits.ensures
    ∙ sum_part (((a.cache.b.0 - o.bmin.0) * rows o + a.cache.s) * o.ways) a.cache.w a.counts.now (omega (arith, fit.1, q.wide))
    ∙ sym (hits_at_places a.self.now n a.cache.b.0 a.cache.s a.cache.w q a.counts.now)

pub overflow_sub-k : goal.overflow_sub-k
overflow_sub-k c =
    let q = asked_of c.args.self.now _ _ _ _ (sym c.in_ok-unasked.ensures) in
    omega (arith, q.there)

pub overflow_mul-at : goal.overflow_mul-at
overflow_mul-at c = omega (arith, inside c)

pub overflow_add-at : goal.overflow_add-at
overflow_add-at c = omega (arith, inside (goal.at.overflow_add-at c).After-rows)

pub overflow_mul-at-2 : goal.overflow_mul-at-2
overflow_mul-at-2 c = omega (arith, inside (goal.at.overflow_mul-at-2 c).After-rows)

pub overflow_add-at-2 : goal.overflow_add-at-2
overflow_add-at-2 c = omega (arith, inside (goal.at.overflow_add-at-2 c).After-rows)

pub offset_bounds-counts-at : goal.offset_bounds-counts-at
offset_bounds-counts-at c = omega (arith, inside (goal.at.offset_bounds-counts-at c).After-rows)

pub slice_bounds-summed-end : goal.slice_bounds-summed-end
slice_bounds-summed-end c = omega (arith, inside (goal.at.slice_bounds-summed-end c).After-rows)

pub summed-hits-requires : goal.summed-hits-requires
summed-hits-requires c =
    let at = (goal.at.summed-hits-requires c).After-rows in
    rw add-sub_cancel_left (simp length-take (omega (arith, (asked at).there, (asked at).numbers)))

pub returns-in_err-misses : goal.returns-in_err-misses
returns-in_err-misses c =
    let a = c.args in
    let at = (goal.at.returns-in_err-misses c).After-summed-hits in
    let over : a.self.now.taken < c.summed-hits.result = grind (arith, c.in_err-misses.ensures.ok_part, c.checked_sub.ensures) in
    let p = err_from_is_err_and c.from_residual-in_err-misses.result c.from_residual-in_err-misses.ensures.1 in
    let e : c.in_err-misses.field-0.0 ≡ CountOver = refused_as _ _ _ c.in_err-misses.ensures.ok_part c.in_err-misses.ensures.value in
    rw (p.1, p.2, e) (misses_over_lem a.self.now a.counts.now a.cache.b.0 a.cache.s a.cache.w (passed at) (omega (arith, hits at)))

pub returns : goal.returns
returns c =
    let a = c.args in
    let at = (goal.at.returns c).After-summed-hits in
    let given : (c.summed-hits.result ≤ c.from.result) × (c.in_ok-misses.misses ≡ c.from.result - c.summed-hits.result)
    = grind (arith, c.in_ok-misses.ensures.ok_part, c.checked_sub.ensures) in
    rw (given.1, c.from.ensures, hits at)
    (misses_given a.self.now a.counts.now a.cache.b.0 a.cache.s a.cache.w (passed at) (omega (arith, hits at, given.0)))
