-- `next` meets its contract: the first of the caches left is given, the others are left, and the order stays. Assumes nothing.
use Rattle.std.proofs.Common.{ap, refl, sym, length, arith, ◌∙◌, ◌∷◌}
use Rattle.std.specs.Prelude.{Option}
use Rattle.order.specs.declared.Cache.{Cache}
use Rattle.printing.specs.Grid.{from_cache}
use Rattle.printing.proofs.WalkLaws.{next_left}
use Rattle.printing.proofs.WalkIterator.next.Goals as goal

pub returns-clause-steps : goal.returns-clause-steps
returns-clause-steps c =
    let o = c.args.self.now.order in
    let cache = c.in_ok-cache.cache in
    let after = ap (λ (next : Option Cache). cache ∷ from_cache o next) (sym c.cache_after-self.ensures) in
    (ap (from_cache o) c.in_ok-cache.was ∙ next_left o cache ∙ after, refl)

pub returns-clause-goes : goal.returns-clause-goes
returns-clause-goes c =
    let fewer = ap length (returns-clause-steps c).0 in record { on = λ z. (tt, tt, omega (arith, fewer)); keeps = tt; rests = λ z. tt }
