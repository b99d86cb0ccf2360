-- `BlockNo::set` meets its contract: a one shifted by s places is 2^s, and modulo 2^32 and more a number of 32 bits stays. Assumes nothing.
use Prim.Native.Nat.{ℕ, ◌*◌, ◌%◌, ◌^◌, ◌<◌}
use mathlib.Core.Path.{◌≡◌, sym, ap, ◌∙◌}
use native.Mathlib.Omega.{arith}
use lib.Pow.{pow_pos}
use Rattle.lists.proofs.BitLaws.{kept_whole, one_shifted}
use Rattle.cache.specs.Cache.{set_of}
use Rattle.units.proofs.BlockNo.set.Goals as goal

-- the number of sets
module _ (s sets : ℕ) (is : (s < 32) × (sets ≡ 1 * 2 ^ s % 4294967296)) where
  power : sets ≡ 2 ^ s
  power = is.1 ∙ one_shifted 32 s is.0

pub nonzero_rem-result : goal.nonzero_rem-result
nonzero_rem-result c = omega (arith, power c.args.s c.in-Some.sets c.in-Some.ensures, pow_pos c.args.s)

pub returns-in-Some : goal.returns-in-Some
unfolding set_of
returns-in-Some c = ap (λ (n : ℕ). c.args.self.0 % n) (power c.args.s c.in-Some.sets c.in-Some.ensures)

pub returns-in-None : goal.returns-in-None
unfolding set_of
returns-in-None c =
    let a = c.args in
    let small : a.self.0 < 4294967296 = omega arith in
    sym (kept_whole 32 a.s small (omega (arith, c.in-None.ensures)))
