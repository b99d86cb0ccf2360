-- `refusal_line` meets its contract: the form with a column, or the form without, filled in. Assumes nothing.
use mathlib.Core.Path.{sym, ◌∙◌}
use mathlib.Core.List.{[], ◌∷◌}
use native.Mathlib.Omega.{arith}
use Rattle.printing.specs.Printed.{refusal_line}
use Rattle.printing.proofs.FormLaws.{refusal_form, refusal_form_lem, refusal_most, column_form, column_form_lem, column_most, prints_form}
use Rattle.printing.proofs.refusal_line.Goals as goal

pub fill-requires : goal.fill-requires
fill-requires c = let wide = c.if-out-lt-LINE_MOST.false in omega (arith, column_most)

pub returns-then-has_column : goal.returns-then-has_column
returns-then-has_column c =
    let a = c.args in
    let k = c.fill in
    let told = sym c.has_column.ensures ∙ c.if-has_column.true in
    prints_form a.out.now c.if-out-lt-LINE_MOST.false column_form (a.answer ∷ a.line ∷ a.column ∷ [])
    (refusal_line a.answer a.line a.column) (column_form_lem a.answer a.line a.column told) column_most
    k.result k.new.out k.ensures

pub fill-requires-2 : goal.fill-requires-2
fill-requires-2 c = let wide = c.if-out-lt-LINE_MOST.false in omega (arith, refusal_most)

pub returns : goal.returns
returns c =
    let a = c.args in
    let k = c.fill-2 in
    let told = sym c.has_column.ensures ∙ c.if-has_column.false in
    prints_form a.out.now c.if-out-lt-LINE_MOST.false refusal_form (a.answer ∷ a.line ∷ [])
    (refusal_line a.answer a.line a.column) (refusal_form_lem a.answer a.line a.column told) refusal_most
    k.result k.new.out k.ensures
