-- `decimal_number` meets its contract. The loop's invariant: the test for digits goes on from the byte that comes next, and so does the
-- value v of those before it, which is handed on as 4294967295 where it is above that. Assumes nothing.
use Prim.Native.Nat.{ℕ, min}
use mathlib.Core.Path.{◌≡◌}
use lib.ListN.{drop}
use Rattle.lines.specs.OrderLine.{all_decimal, decimal}
use Rattle.lines.proofs.decimal.decimal_number.Given as goal

abbrev pub invariant-loop-b : goal.invariant-loop-b
invariant-loop-b l =
    (all_decimal l.digits ≡ all_decimal (drop l.b-index l.digits))
    × ((v : ℕ) × (l.value ≡ min v 4294967295) × (decimal 0 l.digits ≡ decimal v (drop l.b-index l.digits)))
