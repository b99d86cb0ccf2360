-- `try_flush` meets its contract: refused, all is as it was; done, every stack is emptied. Assumes nothing.
use mathlib.Core.Path.{sym}
use Rattle.taking.proofs.FlushLaws.{flush_done}
use Rattle.taking.proofs.NeedLaws.{fit_flush}
use Rattle.taking.proofs.Opened.try_flush.Goals as goal

pub empty_all-requires : goal.empty_all-requires
empty_all-requires c =
    let f = fit_flush c.args.self.now _ (sym c.in_ok-unflushed.ensures) in record { numbers = f.numbers; long = f.long; used = f.used }

pub returns : goal.returns
returns c = λ ct.
    let e = c.empty_all.ensures in
    flush_done c.args.self.now c.args.stacks.now ct _ _ (sym c.in_ok-unflushed.ensures) e.state e.stacks
