-- `try_take` meets its contract: refusals 1 to 5, then the quick way or the other. Assumes nothing.
use mathlib.Core.Path.{sym, ap, ◌∙◌}
use Rattle.taking.specs.Parts.{on_top}
use Rattle.taking.proofs.NeedLaws.{fit_of, fit_walk, fit_tops}
use Rattle.taking.proofs.OutcomeLaws.{same_blocks}
use Rattle.taking.proofs.Opened.try_take.Goals as goal

pub is_on_top-requires : goal.is_on_top-requires
is_on_top-requires c = fit_walk _ _ _ (fit_of _ _ _ (sym c.in_ok-early.ensures)).0

pub take_top-requires : goal.take_top-requires
take_top-requires c =
    let fit = fit_of _ _ _ (sym c.in_ok-early.ensures) in
    (fit_tops _ _ _ fit.0, fit.1)

pub returns-then-is_on_top : goal.returns-then-is_on_top
returns-then-is_on_top c =
    let a = c.args in
    let same = ap (on_top a.self.now a.stacks.now) (same_blocks a.self.now a.a.0 c.block-first.result.0 c.block-first.ensures) in
    c.take_top.ensures a.stacks.now a.a.0 (fit_of _ _ _ (sym c.in_ok-early.ensures)).0
    (sym same ∙ sym c.is_on_top.ensures ∙ c.if-is_on_top.true)

pub take_deep-requires : goal.take_deep-requires
take_deep-requires c = fit_of _ _ _ (sym c.in_ok-early.ensures)
