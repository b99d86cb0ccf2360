-- Laws of numbers by their bits, and by digits to any base: what fits so many, shifts, and low bits. The trailing zeros of an exclusive or tell
-- how many low bits two numbers share. Assumes nothing.
use Prim.Native.Nat.{ℕ, zero, suc, ◌+◌, ◌-◌, ◌*◌, ◌/◌, ◌%◌, ◌^◌, ◌≤◌, ◌<◌}
use mathlib.Core.Path.{◌≡◌, refl, sym, ap, ap₂, ◌∙◌, subst}
use mathlib.Core.Bool.{true≢false}
use native.Mathlib.Nat.{mod-one, div-add-mod', one-mul, mul-le-mul, le_trans, lt_of_lt_of_le, div-eq_of_lt, mod-eq_of_lt}
use native.Mathlib.Nat.{pow-suc, pow-le-pow_right}
use native.Mathlib.Numerals.{add-one}
use native.Mathlib.Omega.{arith}
use lib.Arith.{bin_ind, digits_lt}
use lib.Bits.{bit_xor, differ, xor_step, xor_self, xor_mod}
use lib.Count.{count_trailing_zeros, under}
use lib.Dec.{eqb, leb, lit<}
use lib.Pow.{pow_mono, shl_exact, mod-pow-add, mod-mod-pow}
use borrow.Author.Tests.{eq-eqb, ne_eqb, leb-true, le-leb}
use Rattle.lists.proofs.Cases.{cases}

-- ---- numerals to any base: one digit more

pub numeral_more : (base n v d : ℕ) → v < base ^ n → d < base → v * base + d < base ^ suc n
numeral_more base n v d hv hd = rw pow-suc (digits_lt hv hd)

pub numeral_fits : (base most n v d : ℕ) → v < base ^ n → d < base → n < most → v * base + d < base ^ most
numeral_fits base most n v d hv hd hn =
    le_trans (numeral_more base n v d hv hd) (pow-le-pow_right (omega arith) hn)

-- ---- numbers of so many bits

-- one more than a number of 32 bits, times a number of 32 bits, fits 64
pub product_fits : (m n : ℕ) → m ≤ 4294967296 → n ≤ 4294967295 → m * n < 18446744073709551616
product_fits m n h g = omega (arith, mul-le-mul {n₁ = m} {m₁ = n} {n₂ = 4294967296} {m₂ = 4294967295} h g)

module _ (width : ℕ) {a : ℕ} (k : ℕ) (small : a < 2 ^ width) (far : width ≤ k) where
  below_pow : a < 2 ^ k
  below_pow = lt_of_lt_of_le small (pow_mono {i = width} {j = k} far)

  -- shifted by as many places and more, nothing is left
  pub shifted_out : a / 2 ^ k ≡ 0
  shifted_out = div-eq_of_lt below_pow

  -- as many low bits and more are the whole
  pub kept_whole : a % 2 ^ k ≡ a
  kept_whole = mod-eq_of_lt below_pow

-- a one shifted by fewer places than there are
pub one_shifted : (width s : ℕ) → s < width → 1 * 2 ^ s % 2 ^ width ≡ 2 ^ s
one_shifted width s h = shl_exact 1 s width (lit< tt) (omega arith) ∙ one-mul (2 ^ s)

-- ---- low bits

-- the s low bits of the s' low bits
pub mod_fewer : (s s' n : ℕ) → s ≤ s' → n % 2 ^ s' % 2 ^ s ≡ n % 2 ^ s
mod_fewer s s' n h = subst (λ (k : ℕ). n % 2 ^ k % 2 ^ s ≡ n % 2 ^ s) (omega arith) (mod-mod-pow n (s' - s) s)

-- ---- trailing zeros

low_step : (n s : ℕ) → n % 2 ^ suc s ≡ (n / 2 % 2 ^ s) * 2 + n % 2
low_step n s = rw add-one at (mod-pow-add n s 1)

mod_of_zeros : (k n s : ℕ) → s ≤ count_trailing_zeros k n → n % 2 ^ s ≡ 0
unfolding count_trailing_zeros
mod_of_zeros k n zero h = mod-one n
mod_of_zeros zero n (suc s) h = absurd (omega arith)
mod_of_zeros (suc k) n (suc s) h = go (n % 2) refl h (mod_of_zeros k (n / 2) s)
  where
    go : (d : ℕ) → n % 2 ≡ d → suc s ≤ under d (count_trailing_zeros k (n / 2)) → (s ≤ count_trailing_zeros k (n / 2) → n / 2 % 2 ^ s ≡ 0)
        → n % 2 ^ suc s ≡ 0
    go zero e g ih = omega (arith, low_step n s, ih (omega arith))
    go (suc d) e g ih = absurd (omega arith)

zeros_of_mod : (k n s : ℕ) → s ≤ k → n % 2 ^ s ≡ 0 → s ≤ count_trailing_zeros k n
unfolding count_trailing_zeros
zeros_of_mod k n zero l h = omega arith
zeros_of_mod zero n (suc s) l h = absurd (omega arith)
zeros_of_mod (suc k) n (suc s) l h = go (n % 2) refl (zeros_of_mod k (n / 2) s (omega arith) (omega (arith, low_step n s)))
  where
    go : (d : ℕ) → n % 2 ≡ d → s ≤ count_trailing_zeros k (n / 2) → suc s ≤ under d (count_trailing_zeros k (n / 2))
    go zero e g = omega arith
    go (suc d) e g = absurd (omega (arith, low_step n s))

-- ---- the exclusive or

same_of_differ : (x y : ℕ) → differ x y ≡ 0 → x ≡ y
same_of_differ zero y h = sym h
same_of_differ (suc x) zero h = h
same_of_differ (suc x) (suc y) h = ap suc (same_of_differ x y h)

same_of_xor : (a b : ℕ) → bit_xor a b ≡ 0 → a ≡ b
same_of_xor =
    bin_ind (λ (n : ℕ). (b : ℕ) → bit_xor n b ≡ 0 → n ≡ b) (λ b h. sym h) (λ n ih b h.
    sym (div-add-mod' n 2)
    ∙ ap₂ (λ (x y : ℕ). x * 2 + y) (ih (b / 2) (omega (arith, xor_step n b))) (same_of_differ (n % 2) (b % 2) (omega (arith, xor_step n b)))
    ∙ div-add-mod' b 2)

-- two numbers share their s low bits exactly where s is at most the trailing zeros, in k bits, of their exclusive or
pub low_bits_shared : (s k x y : ℕ) → s ≤ k → leb s (count_trailing_zeros k (bit_xor x y)) ≡ eqb (x % 2 ^ s) (y % 2 ^ s)
low_bits_shared s k x y h =
    cases (leb s zeros)
    (λ e. e ∙ sym (eq-eqb (x % 2 ^ s) (y % 2 ^ s) (none (mod_of_zeros k both s (leb-true s _ e)))))
    (λ e. e ∙ sym (ne_eqb (x % 2 ^ s) (y % 2 ^ s) (λ q. true≢false (sym (le-leb s zeros (all q)) ∙ e))))
  where
    both : ℕ
    both = bit_xor x y

    zeros : ℕ
    zeros = count_trailing_zeros k both

    none : both % 2 ^ s ≡ 0 → x % 2 ^ s ≡ y % 2 ^ s
    none q = same_of_xor (x % 2 ^ s) (y % 2 ^ s) (sym (xor_mod x y s) ∙ q)

    all : x % 2 ^ s ≡ y % 2 ^ s → s ≤ zeros
    all q = zeros_of_mod k both s h (xor_mod x y s ∙ ap (bit_xor (x % 2 ^ s)) (sym q) ∙ xor_self (x % 2 ^ s))

-- so two numbers of k bits are equal exactly where the exclusive or has no bit set: k trailing zeros
pub equal_by_bits : (k x y : ℕ) → x < 2 ^ k → y < 2 ^ k → leb k (count_trailing_zeros k (bit_xor x y)) ≡ eqb x y
equal_by_bits k x y h g =
    low_bits_shared k k x y (omega arith) ∙ ap₂ eqb (kept_whole k k h (omega arith)) (kept_whole k k g (omega arith))
