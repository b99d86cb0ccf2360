-- `kkaeduron_flush` meets its contract: the reply of the library's flush, from the state that the numbers say. Assumes nothing.
use Rattle.cache.specs.Cache.{flush}
use Rattle.capi.proofs.BoundaryLaws.{take_called}
use Rattle.capi.specs.Boundary.{lent}
use Rattle.capi.proofs.kkaeduron_flush.Goals as goal

pub returns : goal.returns
returns c =
    let a = c.args in
    λ ct. rw c.answer_of.ensures
    (take_called (lent a.state.now a.stacks.now ct) flush c.state_from-handed.ensures (c.flush-emptied.ensures ct) c.numbers_of.ensures)
