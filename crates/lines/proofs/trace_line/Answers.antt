-- `trace_line` meets its contract: each stage that the code has passed takes the definition one stage on, and at each `return` the
-- stage that is reached decides. Assumes nothing.
use Prim.Native.Nat.{ℕ, ◌+◌, ◌-◌, ◌≤◌, ◌<◌}
use mathlib.Core.Path.{◌≡◌, refl, sym, ap, ap₂, ◌∙◌, subst}
use mathlib.Core.Bool.{true}
use mathlib.Core.List.{List}
use native.Mathlib.Omega.{arith}
use lib.ListN.{length, take, drop, length-drop}
use lib.Seq.{take-length, drop-drop}
use Rattle.std.proofs.lemmas.List.{get_or-drop}
use Rattle.lines.specs.TraceLine.{in_address, labelled, trace_line_of}
use Rattle.lines.specs.Parts.{HexDigits, is_label}
use Rattle.lines.proofs.TraceLaws.{too_long_lem, line_empty, line_label_wrong, start_within, line_no_gap, line_no_address, line_address, address_end, address_blank, address_wrong}
use Rattle.lines.proofs.SaidLaws.{trace_says}
use Rattle.lines.proofs.trace_line.Goals as goal
use Rattle.lines.proofs.trace_line.Goals.{After-blanks-start, After-hex_digits-address, else-end-line-via-then-end-line+else-not-is_blank, else-end-line-via-else-end-line}

-- the label is right
right : (c : After-blanks-start) → is_label c.in-Some.label.now ≡ true
right c = sym c.is_label.ensures ∙ c.if-not-is_label.false

-- the address starts within the line
within : (c : After-blanks-start) → 1 + c.blanks-start.result ≤ length c.args.line.now
within c = start_within _ _ _ c.in-Some.ensures.cases.0 c.if-line-gt-LONGEST.false (right c) _ c.blanks-start.ensures

-- the bytes from a place on are those that are left
all_left : (l : List ℕ) (i : ℕ) → take (length l - i) (drop i l) ≡ drop i l
all_left l i =
    let left : length l - i ≡ length (drop i l) = sym (length-drop i l) in
    ap (λ (n : ℕ). take n (drop i l)) left ∙ take-length (drop i l)

-- the digits, as bytes of the line
digits : (c : After-hex_digits-address) →
    let d = c.hex_digits-address.result in
    HexDigits (drop (1 + c.blanks-start.result) c.args.line.now) d.value d.count
digits c =
    let d = c.hex_digits-address.result in
    let bytes = all_left c.args.line.now (1 + c.blanks-start.result) in
    subst (λ (bytes : List ℕ). HexDigits bytes d.value d.count) bytes c.hex_digits-address.ensures

goes_on : (c : After-hex_digits-address) →
    let line = c.args.line.now in
    let d = c.hex_digits-address.result in
    let end = 1 + c.blanks-start.result + d.count in
    trace_line_of line ≡ in_address c.in-Some.label.now d.count d.value (end + 1) (drop end line)
goes_on c =
    let n = c.blanks-start.result in
    let d = c.hex_digits-address.result in
    let label = c.in-Some.label.now in
    let at = (goal.at.After-hex_digits-address c).After-blanks-start in
    let column : 1 + n + 1 + d.count ≡ 1 + n + d.count + 1 = omega arith in
    line_address _ label _ c.in-Some.ensures.cases.0 c.if-line-gt-LONGEST.false (right at) n c.blanks-start.ensures (λ z. omega arith)
    (omega (arith, within at))
    ∙ (digits c).goes_on label (1 + n + 1) ∙ ap₂ (in_address label d.count d.value) column (rw drop-drop refl)

pub returns-then-line-gt-LONGEST : goal.returns-then-line-gt-LONGEST
returns-then-line-gt-LONGEST c = trace_says (too_long_lem _ c.if-line-gt-LONGEST.true ∙ sym c.bad_at.ensures)

pub returns-in_default : goal.returns-in_default
returns-in_default c = trace_says (line_empty _ c.in_default.ensures.cases ∙ sym c.bad_at-in_default.ensures)

pub returns-then-not-is_label : goal.returns-then-not-is_label
returns-then-not-is_label c =
    let wrong = sym c.is_label.ensures ∙ c.if-not-is_label.true in
    trace_says (line_label_wrong _ _ _ c.in-Some.ensures.cases.0 c.if-line-gt-LONGEST.false wrong ∙ sym c.bad_at-then-not-is_label.ensures)

pub returns-then-start-eq1 : goal.returns-then-start-eq1
returns-then-start-eq1 c =
    let at = (goal.at.returns-then-start-eq1 c).After-blanks-start in
    trace_says (line_no_gap _ _ _ c.in-Some.ensures.cases.0 c.if-line-gt-LONGEST.false (right at) _ c.blanks-start.ensures c.if-start-eq1.true
    ∙ sym c.bad_at-then-start-eq1.ensures)

pub returns-then-start-line : goal.returns-then-start-line
returns-then-start-line c =
    let at = (goal.at.returns-then-start-line c).After-blanks-start in
    let first = c.in-Some.ensures.cases.0 in
    trace_says
    (line_no_address _ _ _ first c.if-line-gt-LONGEST.false (right at) _ c.blanks-start.ensures (λ z. omega arith) c.if-start-line.true
    ∙ sym c.bad_at-then-start-line.ensures)

pub returns-then-not-is_blank : goal.returns-then-not-is_blank
returns-then-not-is_blank c =
    let at = (goal.at.returns-then-not-is_blank c).After-hex_digits-address in
    let line = c.args.line.now in
    let other = sym c.is_blank.ensures ∙ c.if-not-is_blank.true in
    let n = c.blanks-start.result in
    let count = c.hex_digits-address.result.count in
    let more : count < length (drop (1 + n) line) = omega (arith, length-drop (1 + n) line) in
    let ended = rw get_or-drop at (digits at).ended more in
    trace_says (goes_on at ∙ address_wrong _ _ _ _ line _ c.if-end-line.true other ended ∙ sym c.bad_at-then-not-is_blank.ensures)

pub returns : goal.returns
returns c =
    let at = (goal.at.returns c).After-hex_digits-address in
    let line = c.args.line.now in
    let d = c.hex_digits-address.result in
    let start = 1 + c.blanks-start.result in
    let fits = within (goal.at.After-hex_digits-address at).After-blanks-start in
    let label = c.in-Some.label.now in
    let end = start + d.count in
    let read : in_address label d.count d.value (end + 1) (drop end line) ≡ labelled label d.value =
    elim c.else-end-line.branch [
      | else-end-line-via-then-end-line+else-not-is_blank w ↦
          address_blank _ _ _ _ line _ w.if-end-line.true (sym w.is_blank.ensures ∙ w.if-not-is_blank.false)
      | else-end-line-via-else-end-line w ↦ address_end _ _ _ _ line _ (omega (arith, (digits at).within, length-drop start line, fits))
    ] in
    trace_says (goes_on at ∙ read ∙ sym c.labelled.ensures)
