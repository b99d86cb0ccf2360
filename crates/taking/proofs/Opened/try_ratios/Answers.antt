-- `try_ratios` meets its contract: what `try_misses` answers, and whether references were taken, say which of three outcomes comes. Assumes nothing.
use mathlib.Core.Path.{sym, ap}
use native.Mathlib.Omega.{arith}
use Rattle.taking.specs.Questions.{Counted}
use Rattle.taking.proofs.RatioLaws.{counted_small}
use Rattle.taking.proofs.Opened.try_ratios.Goals as goal

pub rated-requires : goal.rated-requires
rated-requires c =
    let a = c.args in
    let given = ap (λ (x : Counted). x.answer) c.in_ok-misses.ensures in
    let small = counted_small a.self.now a.counts.now a.cache.b.0 a.cache.s a.cache.w (sym given) in
    (omega arith, small.0)
