-- `unfit` meets its contract: each `return` has the tests that led to it. Assumes nothing.
use mathlib.Core.Path.{◌≡◌, sym, ◌∙◌, ap}
use mathlib.Core.Bool.{Bool, cond, not}
use native.Mathlib.Omega.{arith}
use Rattle.lists.proofs.CompareLaws.{long_of}
use Rattle.units.specs.Refusals.{foreign_state}
use Rattle.order.specs.Limits.{count_need}
use Rattle.order.proofs.LimitLaws.{within_test, within_yes}
use Rattle.taking.specs.Parts.{unfit_answer}
use Rattle.taking.proofs.Opened.unfit.Goals as goal
use Rattle.taking.proofs.Opened.unfit.Goals.{After-is_foreign}

-- refusals 1 to 3 do not apply: whether the state is foreign decides
last : (c : After-is_foreign) {foreign : Bool} → c.is_foreign.result ≡ foreign
    → unfit_answer c.args.self.now c.args.n c.args.m ≡ cond foreign foreign_state 0
last c e =
    let fits = within_test _ _ c.is_within.ensures (ap not c.if-not-is_within.false) in
    let need : c.count_need.result ≡ count_need c.args.self.now.order = c.count_need.ensures ∙ simp fits in
    let long = long_of {n = c.args.n} c.stack_need.ensures (omega arith) in
    let wide = long_of {n = c.args.m} need (omega arith) in
    simp (fits, long, wide, sym c.is_foreign.ensures ∙ e)

pub is_foreign-requires : goal.is_foreign-requires
is_foreign-requires c = omega (arith, within_yes _ _ c.is_within.ensures (ap not c.if-not-is_within.false))

pub returns-then-is_foreign : goal.returns-then-is_foreign
returns-then-is_foreign c = sym (last (goal.at.returns-then-is_foreign c).After-is_foreign c.if-is_foreign.true)

pub returns : goal.returns
returns c = sym (last (goal.at.returns c).After-is_foreign c.if-is_foreign.false)
