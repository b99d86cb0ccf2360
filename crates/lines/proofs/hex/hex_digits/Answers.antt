-- `hex_digits` meets its contract. Assumes nothing.
use Prim.Native.Nat.{ℕ, ◌+◌, ◌*◌, ◌^◌, ◌<◌, min}
use mathlib.Core.Path.{◌≡◌, sym, ap, ◌∙◌}
use mathlib.Core.Bool.{true}
use mathlib.Core.List.{List}
use native.Mathlib.Numerals.{add-one}
use native.Mathlib.Omega.{arith}
use lib.ListN.{length, take, get_or}
use Rattle.std.proofs.lemmas.List.{get_or-take, length-take}
use Rattle.lists.proofs.BitLaws.{numeral_more, numeral_fits}
use Rattle.lines.specs.Bytes.{is_hex, hex_value}
use Rattle.lines.specs.Parts.{hex_digit}
use Rattle.lines.proofs.ByteLaws.{digit_told}
use Rattle.lines.proofs.TraceLaws.{address_more}
use Rattle.lines.proofs.hex.hex_digits.Goals as goal
use Rattle.lines.proofs.hex.hex_digits.Goals.{In-Some}

-- the byte at a place of the first 8
module _ (bytes : List ℕ) (most i : ℕ) (is : most ≡ min (length bytes) 8) (more : i < length (take most bytes)) where
  next : (i < length bytes) × (i < 8) × (get_or (take most bytes) i 0 ≡ get_or bytes i 0)
  next =
      let within : i < min most (length bytes) = simp length-take at more in
      (omega arith, omega arith, get_or-take most bytes i 0 (omega arith))

-- the one that was just read
abbrev byte_of : In-Some → ℕ
byte_of c = get_or c.args.bytes.now c.loop-count.count 0

told : (c : In-Some) → (is_hex (byte_of c) ≡ true) × (c.in-Some.digit ≡ hex_value (byte_of c)) × (c.in-Some.digit < 16)
told c =
    let at = next c.args.bytes.now c.min.result c.loop-count.count c.min.ensures c.loop-count-test.true in
    digit_told (byte_of c) c.in-Some.digit (sym c.in-Some.is ∙ c.hex_digit.ensures ∙ ap hex_digit at.2)

-- and the value with it fits 8 digits
fits : (c : In-Some) → c.loop-count.value * 16 + c.in-Some.digit < 16 ^ 8
fits c =
    let l = c.loop-count in
    let at = next c.args.bytes.now c.min.result l.count c.min.ensures c.loop-count-test.true in
    numeral_fits 16 8 l.count l.value c.in-Some.digit l.invariant.0 (told c).2 at.1

pub overflow_add-value : goal.overflow_add-value
overflow_add-value c = omega (arith, fits c)

pub loop-count-preserved : goal.loop-count-preserved
loop-count-preserved c =
    let l = c.loop-count in
    let at = next c.args.bytes.now c.min.result l.count c.min.ensures c.loop-count-test.true in
    let t = told c in (
      rw add-one (numeral_more 16 l.count l.value _ l.invariant.0 t.2),
      λ label k.
          let column : k + l.count + 1 ≡ k + (l.count + 1) = omega arith in
          let one = add-one l.count in
          let before = l.invariant.1 label k in
          let more = address_more label l.count l.value (k + l.count) c.args.bytes.now l.count at.0 t.0 at.1 in
          cc,
    )
