-- `state_from` meets its contract: the last 8 of 15 numbers are the used lengths. Assumes nothing.
use borrow.Author.Rules.{rules}
use Rattle.capi.proofs.BoundaryLaws.{state_read}
use Rattle.capi.proofs.state_from.Goals as goal

pub returns : goal.returns
returns c = state_read c.args.state c.copy_from_slice.new.self (search rules) c.copy_from_slice.ensures.after
