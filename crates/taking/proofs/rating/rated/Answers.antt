-- `rated` meets its contract: the shift is 2^b, the division is one rounding and the multiplication is exact. Assumes nothing.
use Prim.Native.Nat.{◌*◌, ◌%◌, ◌^◌}
use mathlib.Core.Path.{◌≡◌}
use native.Mathlib.Omega.{arith}
use Rattle.lists.proofs.BitLaws.{one_shifted}
use Rattle.taking.proofs.RoundingLaws.{miss_once, traffic_once}
use Rattle.taking.proofs.rating.rated.Goals as goal

pub returns : goal.returns
returns c =
    let a = c.args in
    let m = a.misses in
    let b = a.b.0 in
    let power : 1 * 2 ^ b % 4294967296 ≡ 2 ^ b = one_shifted 32 b (omega arith) in
    simp (
      c.from.ensures,
      c.from-2.ensures,
      c.from-bytes.ensures,
      power,
      miss_once m a.taken b (omega arith) (omega arith) (omega arith) (omega arith),
      traffic_once m a.taken b (omega arith) (omega arith) (omega arith) (omega arith),
    )
