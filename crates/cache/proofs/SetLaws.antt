-- Laws of set numbers: more sets part fewer blocks, and the trailing zeros of the exclusive or tell up to which s two blocks share a set.
-- Assumes nothing.
use Prim.Native.Nat.{ℕ, ◌%◌, ◌^◌, ◌≤◌, ◌<◌}
use mathlib.Core.Path.{◌≡◌, sym, ap, ◌∙◌}
use native.Mathlib.Nat.{mod-lt}
use lib.Bits.{bit_xor}
use lib.Count.{count_trailing_zeros}
use lib.Dec.{eqb, leb}
use lib.Pow.{pow_pos}
use Rattle.lists.proofs.BitLaws.{mod_fewer, low_bits_shared}
use Rattle.cache.specs.Cache.{set_of}

pub set_below : (s x : ℕ) → set_of s x < 2 ^ s
unfolding set_of
set_below s x = mod-lt x (pow_pos s)

-- blocks that share a set share one wherever there are fewer sets
pub set_fewer : (s s' : ℕ) → s ≤ s' → (x y : ℕ) → set_of s' x ≡ set_of s' y → set_of s x ≡ set_of s y
unfolding set_of
set_fewer s s' h x y e = sym (mod_fewer s s' x h) ∙ ap (λ (n : ℕ). n % 2 ^ s) e ∙ mod_fewer s s' y h

-- THE LAW of the walk: two blocks share a set at 2^s sets exactly where s is at most the trailing zeros, in k bits, of their exclusive or
pub shared : (s k x y : ℕ) → s ≤ k → leb s (count_trailing_zeros k (bit_xor x y)) ≡ eqb (set_of s x) (set_of s y)
unfolding set_of
shared = low_bits_shared
