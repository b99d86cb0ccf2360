-- `raise_tops` meets its contract: the rows passed are raised, and a row to come has its counts as they were. Assumes nothing.
use Rattle.std.proofs.Common.{◌≡◌, ℕ}
use Rattle.lists.specs.Tables.{raised_rows}
use Rattle.taking.proofs.counting.raise_tops.Given as goal

abbrev pub invariant-loop-s : goal.invariant-loop-s
invariant-loop-s l = l.counts ≡ raised_rows l.ways 0 (λ (s : ℕ). 0) l.s l.initial.counts
