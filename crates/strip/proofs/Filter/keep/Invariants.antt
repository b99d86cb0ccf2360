-- The pass of `strip::Filter::keep`: what it ensures holds of the `a-index` addresses passed so far. Assumes nothing.
use Rattle.std.proofs.Common.{◌≤◌, take}
use Rattle.strip.specs.Filter.{Keeps}
use Rattle.strip.proofs.Filter.keep.Given as goal

abbrev pub invariant-loop-a : goal.invariant-loop-a
invariant-loop-a l = Keeps (take l.a-index l.list) l.initial.self l.initial.out l.n l.self l.out × (l.n ≤ l.a-index)
