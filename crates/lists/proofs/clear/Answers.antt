-- `clear` meets its contract: what is filled are the first n entries, or all where there are fewer. Assumes nothing.
use native.Mathlib.Omega.{arith}
use Rattle.lists.proofs.ZeroLaws.{zeros_before}
use Rattle.lists.proofs.clear.Goals as goal

pub returns : goal.returns
returns c = rw (c.fill.ensures.after (λ y e. e)) (zeros_before c.args.n c.min-end.result c.args.table.now (omega arith))
