-- `hex_digits` meets its contract. The loop's invariant: after `count` digits, worth `value`, the address goes on with the next byte.
-- Its value is below that power of 16, so it fits. Assumes nothing.
use Prim.Native.Nat.{ℕ, ◌+◌, ◌^◌, ◌<◌}
use mathlib.Core.Path.{◌≡◌}
use lib.ListN.{drop}
use Rattle.lines.specs.TraceLine.{in_address}
use Rattle.lines.proofs.hex.hex_digits.Given as goal

abbrev pub invariant-loop-count : goal.invariant-loop-count
invariant-loop-count l =
    (l.value < 16 ^ l.count)
    × ((label k : ℕ) → in_address label 0 0 k l.bytes ≡ in_address label l.count l.value (k + l.count) (drop l.count l.bytes))
