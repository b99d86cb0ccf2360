-- `is_over` meets its contract: at no size passed was a count over. Assumes nothing.
use Rattle.std.proofs.Common.{◌≡◌, false}
use Rattle.lists.specs.Tests.{any_to}
use Rattle.taking.proofs.RowLaws.{over_size}
use Rattle.taking.proofs.Opened.is_over.Given as goal

abbrev pub invariant-loop-k : goal.invariant-loop-k
invariant-loop-k l = any_to l.k (over_size l.self l.walks l.counts) ≡ false
