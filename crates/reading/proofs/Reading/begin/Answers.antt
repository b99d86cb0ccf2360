-- `begin` meets its contract: where it may stand, it opens the order. Assumes nothing.
use mathlib.Core.Path.{◌≡◌, refl, subst, ◌∙◌}
use native.Mathlib.Omega.{arith}
use borrow.Author.Rules.{rules}
use Rattle.std.specs.Prelude.{Result, Ok, Err}
use Rattle.units.specs.declared.refusal.Refusal.{Refusal}
use Rattle.units.specs.Refusals.{answer_of}
use Rattle.order.specs.declared.Order.{Order}
use Rattle.taking.specs.World.{World}
use Rattle.taking.specs.Opening.{Opens}
use Rattle.taking.proofs.OpeningLaws.{opens_checked}
use Rattle.reading.specs.Reading.{Desk, desk}
use Rattle.reading.specs.Head.{opening, begin_at}
use Rattle.units.proofs.RefusalLaws.{refused_not_done}
use Rattle.reading.proofs.StepLaws.{opened_outcome, unopened_outcome, begin_stands}
use Rattle.reading.proofs.Reading.begin.Goals as goal
use Rattle.reading.proofs.Reading.begin.Goals.{After-open-reply, else-self-ne-KINDS-via-then-self-ne-KINDS+else-self-ne-BEGIN, else-self-ne-KINDS-via-else-self-ne-KINDS}

abbrev desk_of : After-open-reply → Desk
desk_of c = desk c.args.self.now c.args.stacks.now c.args.counts.now

stands : (c : After-open-reply) → opening (desk_of c) ≡ begin_at (desk_of c)
stands c =
    elim c.else-self-ne-KINDS.branch [
      | else-self-ne-KINDS-via-then-self-ne-KINDS+else-self-ne-BEGIN w ↦ begin_stands (desk_of c) (omega arith) (omega arith)
      | else-self-ne-KINDS-via-else-self-ne-KINDS w ↦ begin_stands (desk_of c) (omega arith) (omega arith)
    ]

-- an opening whose answer is told
answered : {o : Order} {w w' : World} {x y : Result (Unit {0}) Refusal} → x ≡ y → Opens o w (answer_of x) w' → Opens o w (answer_of y) w'
answered {o = o} {w = w} {w' = w'} e opens = subst (λ (r : Result (Unit {0}) Refusal). Opens o w (answer_of r) w') e opens

pub returns-in_err-reply : goal.returns-in_err-reply
returns-in_err-reply c =
    let at = (goal.at.returns-in_err-reply c).After-open-reply in
    let refusal = c.in_err-reply.field-0.0 in
    let opens = opens_checked _ (Ok c.in_ok-order.order) _ _ _ c.in_ok-order.ensures (answered c.in_err-reply.was c.open-reply.ensures) in
    let same : c.from_residual-in_err-reply.result ≡ Err refusal = search rules in
    rw same (unopened_outcome (desk_of at) _ _ opens (refused_not_done refusal) ∙ stands at)

pub returns : goal.returns
returns c =
    let at = (goal.at.returns c).After-open-reply in
    let opens = opens_checked _ (Ok c.in_ok-order.order) _ _ _ c.in_ok-order.ensures (answered c.in_ok-reply.was c.open-reply.ensures) in
    opened_outcome (desk_of at) _ _ opens refl ∙ stands at
