-- Laws of bytes that are hex digits: what they are worth, and that none is a blank. Assumes nothing.
use Prim.Native.Nat.{ℕ, ◌≤◌, ◌<◌}
use mathlib.Core.Path.{◌≡◌}
use mathlib.Core.Bool.{true, false, ◌&&◌}
use native.Mathlib.Omega.{arith}
use lib.Dec.{leb}
use borrow.Author.Tests.{ne_eqb}
use Rattle.lists.proofs.Cases.{cases}
use Rattle.lists.proofs.CompareLaws.{range_facts}
use Rattle.std.specs.Prelude.{Some}
use Rattle.lines.specs.Bytes.{is_blank, is_hex, hex_value}
use Rattle.lines.specs.Parts.{hex_digit}

-- a hex digit is worth less than 16, and stands above the blanks
pub hex_facts : (c : ℕ) → is_hex c ≡ true → (hex_value c < 16) × (48 ≤ c)
hex_facts c h =
    cases (leb 48 c && leb c 57)
    (λ e. let f = range_facts 48 57 c e in simp e (omega arith))
    (λ e. cases (leb 97 c && leb c 102)
    (λ g. let f = range_facts 97 102 c g in simp (e, g) (omega arith))
    (λ g. let f = range_facts 65 70 c (simp (e, g) at h) in simp (e, g) (omega arith)))

pub hex_no_blank : (c : ℕ) → is_hex c ≡ true → is_blank c ≡ false
hex_no_blank c h =
    let f = hex_facts c h in
    simp (ne_eqb c 32 (λ e. omega arith), ne_eqb c 9 (λ e. omega arith))

-- a digit that was read of one byte
pub digit_told : (c d : ℕ) → Some d ≡ hex_digit c → (is_hex c ≡ true) × (d ≡ hex_value c) × (d < 16)
digit_told c d h =
    cases (is_hex c)
    (λ e. let some = simp e at h in let value : d ≡ hex_value c = cc in (e, value, omega (arith, hex_facts c e)))
    (λ e. let none = simp e at h in cc)
