-- `kkaeduron_open` meets its contract: the reply of the library's opening, or the constructor's refusal beside zeros; its state as numbers.
-- Assumes nothing.
use Rattle.std.specs.Prelude.{Ok}
use Rattle.order.specs.declared.Order.{Order}
use Rattle.taking.specs.World.{world}
use Rattle.units.specs.Refusals.{answer_of}
use Rattle.taking.specs.Opening.{unopened, Opens}
use Rattle.taking.proofs.OpeningLaws.{opens_checked, opens_outside}
use Rattle.capi.proofs.BoundaryLaws.{open_called}
use Rattle.capi.specs.Boundary.{lent}
use Rattle.capi.proofs.kkaeduron_open.Goals.{in-Ok, in-Err}
use Rattle.capi.proofs.kkaeduron_open.Goals as goal

pub returns : goal.returns
returns c =
    let a = c.args in
    let m = c.match-new in
    let o : Order = record { bmin = record { 0 = a.bmin }; bmax = record { 0 = a.bmax }; smax = a.smax; ways = a.ways; room = a.room; refs = a.refs } in
    let from = unopened a.stacks.now a.counts.now in
    let opens : Opens o from (answer_of m.reply.answer) (world m.reply.state m.stacks m.counts) =
    elim m.branch [
      | in-Ok w ↦ rw (w.reply-is, w.stacks-is, w.counts-is) (opens_checked o (Ok w.in-Ok.order) from _ _ w.in-Ok.ensures w.open-reply.ensures)
      | in-Err w ↦ rw (w.reply-is, w.stacks-is, w.counts-is, w.none.ensures) (opens_outside o w.in-Err.refusal from w.in-Err.ensures)
    ] in
    rw c.answer_of.ensures (open_called o (lent a.state.now a.stacks.now a.counts.now) opens c.numbers_of.ensures)
