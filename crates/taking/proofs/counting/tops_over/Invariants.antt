-- `tops_over` meets its contract: `over` tells whether some count of the rows passed is over. Assumes nothing.
use Rattle.std.proofs.Common.{◌≡◌, ℕ, ◌*◌, leb, get_or}
use Rattle.lists.specs.Tests.{any_to}
use Rattle.taking.proofs.counting.tops_over.Given as goal

abbrev pub invariant-loop-s : goal.invariant-loop-s
invariant-loop-s l = l.over ≡ any_to l.s (λ (s : ℕ). leb l.taken (get_or l.counts (s * l.ways) 0))
