-- `size_over` meets its contract: no count of the rows passed is over, and from the first depth of 0 on it lies with the first counts. Assumes nothing.
use Rattle.std.proofs.Common.{◌≡◌, false}
use Rattle.lists.specs.Tests.{any_to}
use Rattle.lists.specs.Tables.{over_row}
use Rattle.taking.specs.Parts.{depth_in}
use Rattle.taking.proofs.counting.size_over.Given as goal

abbrev pub invariant-loop-s : goal.invariant-loop-s
invariant-loop-s l = any_to l.s (over_row l.ways 0 (depth_in l.depths) l.taken l.counts) ≡ false
