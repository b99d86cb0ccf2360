-- `early` meets its contract: where none of 1 to 4 applies, whether the references are reached decides. Assumes nothing.
use mathlib.Core.Path.{sym, ◌∙◌}
use borrow.Author.Tests.{eq-eqb, ne_eqb}
use Rattle.taking.proofs.NeedLaws.{fit_unfit, early_fit}
use Rattle.taking.proofs.Opened.early.Goals as goal

pub returns-then-self : goal.returns-then-self
returns-then-self c = sym (early_fit _ _ _ (fit_unfit _ _ _ (sym c.in_ok-unfit.ensures)) ∙ simp (eq-eqb _ _ c.if-self.true))

pub returns : goal.returns
returns c = sym (early_fit _ _ _ (fit_unfit _ _ _ (sym c.in_ok-unfit.ensures)) ∙ simp (ne_eqb _ _ c.if-self.false))
