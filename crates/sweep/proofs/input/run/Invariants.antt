-- The slices read so far leave what is held, nothing is refused, and they were drawn from the bytes that are known; the measure is the bytes
-- that an input may still have. Assumes nothing.
use Rattle.sweep.proofs.ProgressLaws.{left, ReadFrom}
use Rattle.sweep.proofs.input.run.Given as goal

abbrev pub invariant-loop-came : goal.invariant-loop-came
invariant-loop-came g l =
    ReadFrom (g.R.Read.remaining l.fn.input) (g.R.Read.remaining l.input) l.fn.stacks l.fn.counts l.feeding l.stacks l.counts

abbrev pub decreases-loop-came : goal.decreases-loop-came
decreases-loop-came g l = left l.feeding
