-- `tops_over` meets its contract: `over` tells whether some count of the rows passed is over. Assumes nothing.
use Rattle.std.proofs.Common.{sym}
use Rattle.lists.proofs.TestLaws.{any_none, any_next}
use Rattle.taking.proofs.counting.tops_over.Goals as goal

pub loop-s-init : goal.loop-s-init
loop-s-init c = sym (any_none _)

pub loop-s-preserved : goal.loop-s-preserved
loop-s-preserved c = rw (any_next, c.loop-s.invariant)
