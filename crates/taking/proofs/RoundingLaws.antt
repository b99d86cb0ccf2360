-- Rounding, as the two ratios need it: a division of two whole numbers is the one rounding of their fraction, and a multiplication of that
-- by a power of two rounds nothing more, since it moves the exponent alone. Nothing here is about a cache. Assumes nothing.
use Prim.Native.Nat.{ℕ, suc, ◌+◌, ◌-◌, ◌*◌, ◌/◌, ◌%◌, ◌^◌, ◌≤◌, ◌<◌, compare}
use mathlib.Core.Path.{◌≡◌, refl, sym, ap, ap₂, ◌∙◌, subst}
use mathlib.Core.Logic.{inl, inr}
use mathlib.Core.Bool.{true, false, true≢false}
use native.Mathlib.Nat.{le_trans, le_of_eq, le_of_lt, lt_of_lt_of_le, lt_of_le_of_lt, eq-or-lt_of_le, eq-zero-or-pos, zero-lt-suc}
use native.Mathlib.Nat.{zero-mul, one-mul, mul-one, mul_comm, mul_assoc, mul_left_comm, mul-mul-mul_comm, mul-pos}
use native.Mathlib.Nat.{mul-le-mul, mul-le-mul_left, mul-le-mul_right, mul-div_cancel, div-div-eq-div-mul, div-le_self}
use native.Mathlib.Omega.{arith}
use borrow.Author.Tests.{ne_eqb}
use lib.Dec.{T, lit<, lit≤}
use lib.IntN.{pos}
use lib.Pow.{pow-add, pow_pos, pow_mono, pow-lt, shl_lt}
use lib.Ieee.{Float, nan, inf, fin, Format, binary32, binary64, prec, emax, low, up, down, size, round, mul, div, of_int, fits, hid, to_bits, of_bits, le}
use lib.Ieee.Back.{round_whole}
use lib.Ieee.Bits.{of_bits-to_bits}
use lib.Ieee.Digits.{size-le}
use lib.Ieee.Exact.{HasValue, round_exact}
use lib.Ieee.Fits.{kept-lt, nearest-le, round-fits, down_pos}
use lib.Ieee.Order.{drop, kept, round_mono}
use lib.Ieee.Positive.{first_pos}
use lib.Ieee.Scale.{round_same, round_val, grid, overflow, grid_scale, normal_of_fraction}

-- the pattern of no bits is zero, without a sign
pub positive_zero : of_bits binary64 0 ≡ fin false 0 (pos 0)
unfolding of_bits
positive_zero = refl

-- ---- an operation's result, from fractions that its operands equal

crossed : (x y p q a b : ℕ) → x * 1 ≡ a * p → y * 1 ≡ b * q → x * q * b ≡ a * (y * p)
crossed x y p q a b h k = rw (sym (mul-one x) ∙ h, sym (mul-one y) ∙ k) (simp (mul_assoc, mul_comm, mul_left_comm))

div_whole : (f : Format) (x y : Float) (a b : ℕ) → 0 < b → HasValue x false a 1 → HasValue y false b 1 → div f x y ≡ round f false a b
unfolding div
div_whole f nan y a b B h k = elim h [ ]
div_whole f (inf _) y a b B h k = elim h [ ]
div_whole f (fin false m e) nan a b B h k = elim k [ ]
div_whole f (fin false m e) (inf _) a b B h k = elim k [ ]
div_whole f (fin true m e) y a b B h k = absurd (true≢false h.0)
div_whole f (fin false m e) (fin true n d) a b B h k = absurd (true≢false k.0)
div_whole f (fin false m e) (fin false n d) a b B h k =
    let full : 0 < n * up d = subst (λ (z : ℕ). 0 < z) (sym k.1 ∙ mul-one (n * up d)) (mul-pos B (down_pos d)) in
    let some : 0 < n = first_pos n (up d) full in
    rw (ne_eqb n 0 (λ z. omega arith))
    (round_same f false (m * up e * down d) (n * up d * down e) a b (mul-pos full (down_pos e)) B
    (crossed (m * up e) (n * up d) (down e) (down d) a b h.1 k.1))

multiplied : (x y p q a b c d : ℕ) → x * c ≡ a * p → y * d ≡ b * q → x * y * (c * d) ≡ a * b * (p * q)
multiplied x y p q a b c d h k = mul-mul-mul_comm x y c d ∙ ap₂ (λ (u v : ℕ). u * v) h k ∙ mul-mul-mul_comm a p b q

mul_values : (f : Format) (x y : Float) (a c b d : ℕ) → 0 < c → 0 < d → HasValue x false a c → HasValue y false b d
    → mul f x y ≡ round f false (a * b) (c * d)
unfolding mul
mul_values f nan y a c b d C D h k = elim h [ ]
mul_values f (inf _) y a c b d C D h k = elim h [ ]
mul_values f (fin false m e) nan a c b d C D h k = elim k [ ]
mul_values f (fin false m e) (inf _) a c b d C D h k = elim k [ ]
mul_values f (fin true m e) y a c b d C D h k = absurd (true≢false h.0)
mul_values f (fin false m e) (fin true n g) a c b d C D h k = absurd (true≢false k.0)
mul_values f (fin false m e) (fin false n g) a c b d C D h k =
    round_same f false (m * up e * (n * up g)) (down e * down g) (a * b) (c * d) (mul-pos (down_pos e) (down_pos g)) (mul-pos C D)
    (multiplied (m * up e) (n * up g) (down e) (down g) a b c d h.1 k.1)

-- ---- one number is one value of the format: its bit pattern follows from its size in units of the format's smallest value

pattern : (f : Format) (x : Float) (g : ℕ) → HasValue x false g (2 ^ low f) → to_bits f x ≡ 0 + (size g - prec f) * hid f + g / 2 ^ (size g - prec f)
unfolding to_bits
pattern f nan g h = elim h [ ]
pattern f (inf _) g h = elim h [ ]
pattern f (fin true m e) g h = absurd (true≢false h.0)
pattern f (fin false m e) g h =
    ap (λ (z : ℕ). 0 + (size z - prec f) * hid f + z / 2 ^ (size z - prec f)) (ap (λ (z : ℕ). z / down e) h.1 ∙ mul-div_cancel g (down_pos e))

value_unique : (f : Format) (x y : Float) (g : ℕ) → T (fits f x) → T (fits f y) → HasValue x false g (2 ^ low f) → HasValue y false g (2 ^ low f)
    → x ≡ y
value_unique f x y g p q h k = sym (of_bits-to_bits f x p) ∙ ap (of_bits f) (pattern f x g h ∙ sym (pattern f y g k)) ∙ of_bits-to_bits f y q

-- ---- what a rounding gives rounds to itself

kept_le : (p n c : ℕ) → kept p n c ≤ 2 ^ p
kept_le p n c =
    let u = c * 2 ^ drop p n c in
    le_trans (nearest-le (n / u) (compare (n % u * 2) u)) (subst (λ (z : ℕ). z < 2 ^ p) (div-div-eq-div-mul n c (2 ^ drop p n c)) (kept-lt p (n / c)))

one_below : (f : Format) → 1 < 2 ^ prec f
one_below binary32 = lit< tt
one_below binary64 = lit< tt

-- q * 2^k units, q of no more digits than the format keeps, or the next power of two
units_exact : (f : Format) (q k : ℕ) → q ≤ 2 ^ prec f → q * 2 ^ k < overflow f
    → HasValue (round f false (q * 2 ^ k) (2 ^ low f)) false (q * 2 ^ k) (2 ^ low f)
units_exact f q k l h =
    elim (eq-or-lt_of_le l) [
      | inl e ↦
          let top : q * 2 ^ k ≡ 1 * 2 ^ (prec f + k) = ap (λ (z : ℕ). z * 2 ^ k) e ∙ sym (pow-add 2 (prec f) k) ∙ sym (one-mul (2 ^ (prec f + k))) in
          round_exact f false (q * 2 ^ k) (2 ^ low f) 1 (prec f + k) (pow_pos (low f)) (one_below f) (subst (λ (z : ℕ). z < overflow f) top h)
          (ap (λ (z : ℕ). z * 2 ^ low f) top)
      | inr s ↦ round_exact f false (q * 2 ^ k) (2 ^ low f) q k (pow_pos (low f)) s h refl
    ]

round_again : (f : Format) (a c : ℕ) → grid f a c < overflow f → round f false (grid f a c) (2 ^ low f) ≡ round f false a c
round_again f a c h =
    value_unique f (round f false (grid f a c) (2 ^ low f)) (round f false a c) (grid f a c) (round-fits f false (grid f a c) (2 ^ low f))
    (round-fits f false a c)
    (units_exact f (kept (prec f) (a * 2 ^ low f) c) (drop (prec f) (a * 2 ^ low f) c) (kept_le (prec f) (a * 2 ^ low f) c) h)
    (round_val f a c h)

grid_below : (f : Format) (a c j : ℕ) → a * 2 ^ low f < 2 ^ j → prec f + j < low f + suc (emax f) → grid f a c < overflow f
grid_below f a c j h r =
    let n = a * 2 ^ low f in
    let few : drop (prec f) n c ≤ j = omega (arith, size-le (n / c) j (lt_of_le_of_lt (div-le_self n c) h)) in
    lt_of_le_of_lt (mul-le-mul (kept_le (prec f) n c) (pow_mono few)) (lt_of_le_of_lt (le_of_eq (sym (pow-add 2 (prec f) j))) (pow-lt r))

-- ---- 2^t times a rounded fraction is 2^t times the fraction, rounded: in the normal range, and at zero

mul_normal : (f : Format) (a c t : ℕ) → 0 < c → t ≤ prec f → prec f ≤ size (a * 2 ^ low f / c) → grid f a c < overflow f
    → grid f (a * 2 ^ t) c < overflow f
    → mul f (round f false a c) (of_int f (pos (2 ^ t))) ≡ round f false (a * 2 ^ t) c
unfolding of_int
mul_normal f a c t C l normal h k =
    mul_values f (round f false a c) (round f false (2 ^ t) 1) (grid f a c) (2 ^ low f) (2 ^ t) 1 (pow_pos (low f)) (zero-lt-suc 0)
    (round_val f a c h) (round_whole f false (2 ^ t) (pow_mono l))
    ∙ ap₂ (round f false) (sym (grid_scale f a c t C normal)) (mul-one (2 ^ low f))
    ∙ round_again f (a * 2 ^ t) c k

round_zero : (f : Format) (c : ℕ) → 0 < c → HasValue (round f false 0 c) false 0 1
round_zero f c C =
    subst (λ (x : Float). HasValue x false 0 1) (sym (round_same f false 0 c 0 1 C (zero-lt-suc 0) (zero-mul 1 ∙ sym (zero-mul c))))
    (round_whole f false 0 (omega arith))

mul_zero : (f : Format) (c t : ℕ) → 0 < c → t ≤ prec f → mul f (round f false 0 c) (of_int f (pos (2 ^ t))) ≡ round f false (0 * 2 ^ t) c
unfolding of_int
mul_zero f c t C l =
    mul_values f (round f false 0 c) (round f false (2 ^ t) 1) 0 1 (2 ^ t) 1 (zero-lt-suc 0) (zero-lt-suc 0) (round_zero f c C)
    (round_whole f false (2 ^ t) (pow_mono l))
    ∙ round_same f false (0 * 2 ^ t) (1 * 1) (0 * 2 ^ t) c (zero-lt-suc 0) C (simp (zero-mul (2 ^ t), zero-mul c))

-- ---- the same of the numbers that the floats stand for

-- x and y are finite and not negative, and y is exactly k times x: they are num / den and num * k / den in size
pub record Times (k : ℕ) (x y : Float) : Type 0 where
  pub num : ℕ
  pub den : ℕ
  pub above : 0 < den
  pub first : HasValue x false num den
  pub second : HasValue y false (num * k) den

times_zero : (f : Format) (c k : ℕ) → 0 < c → Times k (round f false 0 c) (round f false (0 * k) c)
times_zero f c k C = record {
  num = 0;
  den = 1;
  above = zero-lt-suc 0;
  first = round_zero f c C;
  second = subst (λ (a : ℕ). HasValue (round f false a c) false a 1) (sym (zero-mul k)) (round_zero f c C);
}

-- ---- in binary64, for two counts of 32 bits and a block size of at most 2^12 bytes

module _ (m n b : ℕ) (small : m < 4294967296) (narrow : n < 4294967296) (some : 0 < n) (short : b ≤ 12) where
  normal : 0 < m → prec binary64 ≤ size (m * 2 ^ low binary64 / n)
  normal h =
      normal_of_fraction binary64 m n some
      (le_trans (mul-le-mul_left (2 ^ 52) (le_of_lt narrow))
      (le_trans (lit≤ tt) (le_trans (le_of_eq (sym (one-mul (2 ^ 1074)))) (mul-le-mul_right (2 ^ 1074) h))))

  miss_below : grid binary64 m n < overflow binary64
  miss_below = grid_below binary64 m n (32 + 1074) (shl_lt 32 1074 small) (lit< tt)

  traffic_below : grid binary64 (m * 2 ^ b) n < overflow binary64
  traffic_below =
      let scaled = lt_of_lt_of_le (shl_lt 32 b small) (pow_mono {i = 32 + b} {j = 44} (omega arith)) in
      grid_below binary64 (m * 2 ^ b) n (44 + 1074) (shl_lt 44 1074 scaled) (lit< tt)

  -- both counts convert without loss, so the one division is the one rounding
  pub miss_once : div binary64 (of_int binary64 (pos m)) (of_int binary64 (pos n)) ≡ round binary64 false m n
  unfolding of_int
  miss_once =
      div_whole binary64 (round binary64 false m 1) (round binary64 false n 1) m n some
      (round_whole binary64 false m (le_trans (le_of_lt small) (lit≤ tt))) (round_whole binary64 false n (le_trans (le_of_lt narrow) (lit≤ tt)))

  -- the multiplication is exact, so the traffic ratio too is one rounding
  pub traffic_once : mul binary64 (round binary64 false m n) (of_int binary64 (pos (2 ^ b))) ≡ round binary64 false (m * 2 ^ b) n
  traffic_once =
      elim (eq-zero-or-pos m) [
        | inl z ↦
            subst (λ (k : ℕ). mul binary64 (round binary64 false k n) (of_int binary64 (pos (2 ^ b))) ≡ round binary64 false (k * 2 ^ b) n) (sym z)
            (mul_zero binary64 n b some (le_trans short (lit≤ tt)))
        | inr h ↦ mul_normal binary64 m n b some (le_trans short (lit≤ tt)) (normal h) miss_below traffic_below
      ]

  pub traffic_times : Times (2 ^ b) (round binary64 false m n) (round binary64 false (m * 2 ^ b) n)
  traffic_times =
      elim (eq-zero-or-pos m) [
        | inl z ↦ subst (λ (k : ℕ). Times (2 ^ b) (round binary64 false k n) (round binary64 false (k * 2 ^ b) n)) (sym z)
            (times_zero binary64 n (2 ^ b) some)
        | inr h ↦ record {
          num = grid binary64 m n;
          den = 2 ^ 1074;
          above = pow_pos 1074;
          first = round_val binary64 m n miss_below;
          second =
              subst (λ (g : ℕ). HasValue (round binary64 false (m * 2 ^ b) n) false g (2 ^ 1074)) (grid_scale binary64 m n b some (normal h))
              (round_val binary64 (m * 2 ^ b) n traffic_below);
        }
      ]

-- ---- a part of a whole rounds to at most one

round_one : round binary64 false 1 1 ≡ fin false 1 (pos 0)
unfolding round
round_one = refl

pub part_at_most_one : (m n : ℕ) → m ≤ n → 0 < n → T (le (round binary64 false m n) (fin false 1 (pos 0)))
part_at_most_one m n h some =
    subst (λ (x : Float). T (le (round binary64 false m n) x)) round_one (round_mono binary64 m n 1 1 some (zero-lt-suc 0) (omega arith))
