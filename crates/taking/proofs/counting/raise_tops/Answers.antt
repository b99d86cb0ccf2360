-- `raise_tops` meets its contract: the rows passed are raised, and a row to come has its counts as they were. Assumes nothing.
use Rattle.std.proofs.Common.{arith}
use Rattle.lists.proofs.RaiseLaws.{raised_none}
use Rattle.lists.proofs.TopRowLaws.{top_raise, top_past}
use Rattle.taking.proofs.counting.raise_tops.Goals as goal

pub loop-s-init : goal.loop-s-init
loop-s-init c = raised_none _ _ _ _

pub overflow_add-counts : goal.overflow_add-counts
overflow_add-counts c =
    let l = c.loop-s in
    let small = c.requires.raisable l.s (omega arith) in
    rw (l.invariant, top_past c.args.ways l.s c.args.counts.now) (omega arith)

pub loop-s-preserved : goal.loop-s-preserved
loop-s-preserved c = let l = c.loop-s in top_raise c.args.ways l.s c.args.counts.now l.counts l.invariant c.requires.grid.1
