-- `over` meets its contract: from the first cache on, all are left. Assumes nothing.
use Rattle.printing.proofs.WalkLaws.{all_left}
use Rattle.printing.proofs.Walk.over.Goals as goal

pub returns-clause-all : goal.returns-clause-all
returns-clause-all c = all_left c.args.order
