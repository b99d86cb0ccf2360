-- `kkaeduron_take` meets its contract: the reply of the library's taking, from the state that the numbers say. Assumes nothing.
use Rattle.cache.specs.Cache.{ref}
use Rattle.capi.proofs.BoundaryLaws.{take_called}
use Rattle.capi.specs.Boundary.{lent}
use Rattle.capi.proofs.kkaeduron_take.Goals as goal

pub returns : goal.returns
returns c =
    let a = c.args in
    rw c.answer_of.ensures
    (take_called (lent a.state.now a.stacks.now a.counts.now) (ref a.addr) c.state_from-handed.ensures c.take_ref-reply.ensures
    c.numbers_of.ensures)
