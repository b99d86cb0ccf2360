-- `feed` meets its contract: each turn takes the bytes of one line, as far as the slice has them. Assumes nothing.
use lib.ListN.{length}
use Rattle.feeding.proofs.FeedLaws.{Fed}
use Rattle.feeding.proofs.Feeding.feed.Given as goal

abbrev pub invariant-loop-rest : goal.invariant-loop-rest
invariant-loop-rest l = Fed l.bytes l.initial.self l.initial.stacks l.initial.counts l.rest l.self l.stacks l.counts

abbrev pub decreases-loop-rest : goal.decreases-loop-rest
decreases-loop-rest l = length l.rest
