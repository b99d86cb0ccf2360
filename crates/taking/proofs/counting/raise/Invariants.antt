-- `raise` meets its contract: the rows passed are raised, and from the first depth of 0 on the first counts are. Assumes nothing.
use Rattle.std.proofs.Common.{◌≡◌}
use Rattle.lists.specs.Tables.{raised_rows}
use Rattle.taking.specs.Parts.{depth_in}
use Rattle.taking.proofs.counting.raise.Given as goal

abbrev pub invariant-loop-s : goal.invariant-loop-s
invariant-loop-s l = l.counts ≡ raised_rows l.ways 0 (depth_in l.depths) l.s l.initial.counts
