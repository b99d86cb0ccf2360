-- `put_number` meets its contract: what `io::decimal` puts is the decimal of the number. Assumes nothing.
use Prim.Native.Nat.{ℕ}
use mathlib.Core.Path.{◌∙◌, subst}
use mathlib.Core.List.{List}
use Rattle.printing.specs.Forms.{Puts}
use Rattle.printing.proofs.NumberLaws.{decimal_is, few_places}
use borrow.Author.Rules.{rules}
use Rattle.printing.proofs.put_number.Goals as goal

pub returns : goal.returns
returns c =
    let d = c.decimal-k in
    let a = c.args in
    let p = c.put in
    let few = few_places a.n d.result d.ensures.len (search rules) in
    subst (λ (l : List ℕ). Puts l a.at a.out.now p.result p.new.out)
    (d.ensures.digits ∙ decimal_is a.n d.result d.ensures.len few) p.ensures
