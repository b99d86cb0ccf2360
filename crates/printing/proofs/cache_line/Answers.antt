-- `cache_line` meets its contract: its form, filled in with the misses that are given. Assumes nothing.
use mathlib.Core.Path.{ap, ◌∙◌}
use mathlib.Core.List.{[], ◌∷◌}
use native.Mathlib.Omega.{arith}
use Rattle.printing.specs.Printed.{line_by, line_at}
use Rattle.printing.proofs.FormLaws.{cache_form, cache_form_lem, cache_most, prints_form}
use Rattle.printing.proofs.cache_line.Goals as goal

pub fill-requires : goal.fill-requires
fill-requires c = omega (arith, cache_most)

pub returns : goal.returns
returns c =
    let a = c.args in
    let b = a.cache.b.0 in
    let s = a.cache.s in
    let w = a.cache.w in
    let n = c.in-Ok.misses in
    let given = cache_form_lem b s w n ∙ ap (line_by a.cache) (rw c.in-Ok.is at c.misses-counted.ensures) in
    let line = line_at a.opened.now a.counts.now a.cache in
    prints_form a.out.now c.if-out-lt-LINE_MOST.false cache_form (b ∷ s ∷ w ∷ n ∷ []) line given cache_most _ _ c.fill.ensures
