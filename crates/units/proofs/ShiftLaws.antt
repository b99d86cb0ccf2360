-- A checked shift to the right gives the number of a block: it divides by the power, and shifts by 32 places and more leave nothing.
-- Assumes nothing.
use Prim.Native.Nat.{ℕ, ◌/◌, ◌^◌, ◌<◌}
use mathlib.Core.Path.{◌≡◌, sym}
use native.Mathlib.Omega.{arith}
use Rattle.std.specs.Prelude.{Option, Some, None}
use Rattle.std.specs.Option.{SomeIff, unwrap_or}
use Rattle.lists.proofs.BitLaws.{shifted_out}
use Rattle.cache.specs.Cache.{block_of}

pub shifted : (r : Option ℕ) (k n : ℕ) → n < 4294967296 → SomeIff r (k < 32) (n / 2 ^ k) → unwrap_or r 0 ≡ block_of k n
unfolding block_of
shifted (Some x) k n small is = is.1
shifted None k n small is = sym (shifted_out 32 k small (omega (arith, is)))
