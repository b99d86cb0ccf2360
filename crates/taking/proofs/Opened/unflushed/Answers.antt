-- `unflushed` meets its contract: more counts than any table has are enough, so refusal 3 never comes. Assumes nothing.
use mathlib.Core.Path.{◌∙◌}
use native.Mathlib.Omega.{arith}
use Rattle.taking.proofs.NeedLaws.{unfit_flush}
use Rattle.taking.proofs.Opened.unflushed.Goals as goal

pub returns : goal.returns
returns c = c.unfit.ensures ∙ unfit_flush _ _ _ (omega arith)
