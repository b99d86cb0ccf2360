-- `is_on_top` meets its contract: at each size passed the block is on top; two blocks are equal exactly where their exclusive or has 32 trailing
-- zeros. Assumes nothing.
use mathlib.Core.Path.{◌≡◌}
use mathlib.Core.Bool.{false}
use Rattle.lists.specs.Tests.{any_to}
use Rattle.taking.specs.Parts.{wider_by, off_top}
use Rattle.taking.proofs.Opened.is_on_top.Given as goal

abbrev pub invariant-loop-k : goal.invariant-loop-k
invariant-loop-k l = any_to l.k (off_top l.self l.stacks (wider_by l.first.0)) ≡ false
