-- `decimal_number` meets its contract: each test that fails is one of the definition's, and the loop has read all digits. Assumes nothing.
use Prim.Native.Nat.{ℕ, ◌+◌, ◌*◌, ◌-◌, ◌≤◌, min}
use mathlib.Core.Path.{◌≡◌, sym, ap, ◌∙◌}
use native.Mathlib.Omega.{arith}
use lib.ListN.{length, get_or}
use Rattle.std.specs.Prelude.{Some}
use borrow.Author.Tests.{eqb-true, eqb-false}
use Rattle.lines.proofs.OrderLaws.{digits_more, digits_other, digits_end, decimal_more, decimal_end, number_none, number_long, number_other, number_right}
use Rattle.lines.proofs.decimal.decimal_number.Goals as goal
use Rattle.lines.proofs.decimal.decimal_number.Goals.{then-is_empty-via-then-is_empty, then-is_empty-via-else-is_empty+then-digits-gt-DECIMAL_MOST}

pub returns-then-is_empty : goal.returns-then-is_empty
returns-then-is_empty c =
    elim c.then-is_empty.branch [
      | then-is_empty-via-then-is_empty w ↦ sym (number_none _ (eqb-true _ 0 (sym c.is_empty.ensures ∙ w.if-is_empty.true)))
      | then-is_empty-via-else-is_empty+then-digits-gt-DECIMAL_MOST w ↦ sym (number_long _ (omega arith) (omega arith))
    ]

pub returns-then-not-is_ascii_digit : goal.returns-then-not-is_ascii_digit
returns-then-not-is_ascii_digit c =
    let l = c.loop-b in
    let other = sym c.is_ascii_digit.ensures.value ∙ c.if-not-is_ascii_digit.true in
    sym (number_other _ (omega arith) (l.invariant.0 ∙ digits_other _ l.b-index c.loop-b-test.true other))

pub loop-b-preserved : goal.loop-b-preserved
loop-b-preserved c =
    let l = c.loop-b in
    let digits = c.args.digits.now in
    let digit = sym c.is_ascii_digit.ensures.value ∙ c.if-not-is_ascii_digit.false in
    let v = l.invariant.1.0 in (
      l.invariant.0 ∙ digits_more digits l.b-index c.loop-b-test.true digit,
      (v * 10 + (get_or digits l.b-index 0 - 48), omega arith, l.invariant.1.2 ∙ decimal_more digits l.b-index v c.loop-b-test.true),
    )

pub returns : goal.returns
returns c =
    let l = c.loop-b in
    let digits = c.args.digits.now in
    let ended = l.invariant.1.2 ∙ decimal_end digits l.b-index l.invariant.1.0 (omega arith) in
    let some = eqb-false (length digits) 0 (sym c.is_empty.ensures ∙ c.if-is_empty.false) in
    let short : get_or digits 0 0 ≡ 48 → length digits ≤ 1 = λ e. grind arith in
    let number = number_right digits (omega (arith, some)) (omega arith) short (l.invariant.0 ∙ digits_end digits l.b-index (omega arith)) in
    ap Some (l.invariant.1.1 ∙ ap (λ (v : ℕ). min v 4294967295) (sym ended)) ∙ sym number
