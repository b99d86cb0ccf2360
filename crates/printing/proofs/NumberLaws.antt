-- The decimal digits of a number: their least number is one. Assumes nothing.
use Prim.Native.Nat.{ℕ, zero, suc, ◌+◌, ◌-◌, ◌/◌, ◌%◌, ◌^◌, ◌≤◌, ◌<◌}
use mathlib.Core.Path.{◌≡◌, refl, sym, ap, ap₂, ◌∙◌}
use mathlib.Core.List.{List, [], ◌∷◌, ◌++◌}
use native.Mathlib.Omega.{arith}
use lib.Dec.{ltb}
use lib.ListN.{length, length-append}
use native.Mathlib.Nat.{pow-le-pow_right, zero-lt-suc, mod-lt}
use borrow.Author.Tests.{ltb-true, ltb-false, lt-ltb}
use Rattle.lists.proofs.Cases.{cases}
use Rattle.io.specs.Digits.{last_digits, hex_digit_ascii, IsDigitCount}
use Rattle.printing.specs.Printed.{places_from, digits_of, decimal_of}

fewest_from : (more j n k : ℕ) → IsDigitCount 10 1 n k → 1 ≤ j → j ≤ k → k ≤ j + more → places_from more j n ≡ k
unfolding places_from
fewest_from zero j n k f one h g = omega arith
fewest_from (suc more) j n k f one h g =
    let ih = fewest_from more (suc j) n k f in
    let fits : n < 10 ^ k = f.1 in
    cases (ltb n (10 ^ j))
    (λ e.
    let less = ltb-true n (10 ^ j) e in
    cases (ltb j k)
    (λ t.
    let past = ltb-true j k t in
    let least : 10 ^ (k - 1) ≤ n = f.2 (omega arith) in
    let rises : 10 ^ j ≤ 10 ^ (k - 1) = pow-le-pow_right (zero-lt-suc 9) (omega arith) in
    absurd (omega arith))
    (λ t. let past = ltb-false j k t in simp e (omega arith)))
    (λ e.
    let not_less = ltb-false n (10 ^ j) e in
    cases (ltb j k)
    (λ t. let past = ltb-true j k t in simp e (ih (omega arith) (omega arith) (omega arith)))
    (λ t.
    let past = ltb-false j k t in
    let same : k ≡ j = omega arith in
    absurd (omega (arith, ap (λ (x : ℕ). 10 ^ x) same))))

-- a number of 64 bits has at most 20
pub few_places : (n k : ℕ) → IsDigitCount 10 1 n k → n < 18446744073709551616 → k ≤ 20
few_places n k f small =
    cases (ltb 20 k)
    (λ t.
    let past = ltb-true 20 k t in
    let least : 10 ^ (k - 1) ≤ n = f.2 (omega arith) in
    let rises : 100000000000000000000 ≤ 10 ^ (k - 1) = pow-le-pow_right {n = 10} (zero-lt-suc 9) {i = 20} (omega arith) in
    absurd (omega arith))
    (λ t. ltb-false 20 k t)

-- what `io::decimal` puts is the decimal of the number
digits_are : (k n : ℕ) → last_digits 10 k n ≡ digits_of k n
unfolding digits_of
digits_are zero n = refl
digits_are (suc k) n =
    let small = lt-ltb (n % 10) 10 (mod-lt n (zero-lt-suc 9)) in
    let last : hex_digit_ascii (n % 10) ≡ 48 + n % 10 = simp small in
    ap₂ (λ (l : List ℕ) (d : ℕ). l ++ (d ∷ [])) (digits_are k (n / 10)) last

pub decimal_is : (n k : ℕ) → IsDigitCount 10 1 n k → k ≤ 20 → last_digits 10 k n ≡ decimal_of n
decimal_is n k f h = digits_are k n ∙ ap (λ (x : ℕ). digits_of x n) (sym (fewest_from 19 1 n k f (omega arith) f.0 (omega arith)))

length_digits : (k n : ℕ) → length (last_digits 10 k n) ≡ k
length_digits zero n = refl
length_digits (suc k) n = omega (arith, length-append (last_digits 10 k (n / 10)) (hex_digit_ascii (n % 10) ∷ []), length_digits k (n / 10))

places_le : (more j n : ℕ) → places_from more j n ≤ j + more
unfolding places_from
places_le zero j n = omega arith
places_le (suc more) j n =
    let ih = places_le more (suc j) n in
    cases (ltb n (10 ^ j)) (λ e. simp e (omega arith)) (λ e. simp e (omega arith))

pub length_decimal : (n : ℕ) → length (decimal_of n) ≤ 20
length_decimal n =
    let k = places_from 19 1 n in
    omega (arith, sym (ap length (digits_are k n)) ∙ length_digits k n, places_le 19 1 n)
