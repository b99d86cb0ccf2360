-- `number_after` meets its contract: the library compares the name byte by byte. Assumes nothing.
use mathlib.Core.Path.{sym, ◌∙◌, ap}
use Rattle.lines.specs.Parts.{decimal_number}
use Rattle.lines.proofs.OrderLaws.{starts_by_bytes}
use Rattle.lines.proofs.decimal.number_after.Goals as goal

pub returns-in_err-strip_prefix : goal.returns-in_err-strip_prefix
returns-in_err-strip_prefix c =
    let none = sym (starts_by_bytes c.args.name.now c.args.line.now) ∙ c.in_err-strip_prefix.ensures.cases in
    c.from_residual.ensures ∙ simp none

pub returns : goal.returns
returns c =
    let ok = c.in_ok-strip_prefix.ensures.cases in
    let starts = sym (starts_by_bytes c.args.name.now c.args.line.now) ∙ ok.0 in
    c.decimal_number.ensures ∙ ap decimal_number ok.1 ∙ simp starts
