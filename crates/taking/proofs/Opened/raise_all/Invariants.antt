-- `raise_all` meets its contract: the sizes passed are raised, and a size to come has its counts as they were. Assumes nothing.
use Rattle.std.proofs.Common.{◌≡◌}
use Rattle.lists.specs.Tables.{raised_groups}
use Rattle.order.specs.Limits.{rows}
use Rattle.taking.specs.Parts.{found_by, deep_by}
use Rattle.taking.proofs.Opened.raise_all.Given as goal

abbrev pub invariant-loop-k : goal.invariant-loop-k
invariant-loop-k l =
    l.counts ≡ raised_groups l.self.order.ways (rows l.self.order) (found_by l.self.used l.walks) (deep_by l.walks) l.k l.initial.counts
