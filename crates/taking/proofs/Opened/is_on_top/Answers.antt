-- `is_on_top` meets its contract: at each size passed the block is on top; two blocks are equal exactly where their exclusive or has 32 trailing
-- zeros. Assumes nothing.
use Prim.Native.Nat.{◌*◌}
use mathlib.Core.Path.{sym, ◌∙◌}
use native.Mathlib.Omega.{arith}
use lib.ListN.{get_or}
use borrow.Author.Tests.{eq-eqb}
use Rattle.std.proofs.lemmas.List.{get_or-take}
use Rattle.lists.proofs.BitLaws.{equal_by_bits}
use Rattle.lists.proofs.TestLaws.{any_none, any_more, any_yes}
use Rattle.order.specs.Limits.{sizes as sizesOf}
use Rattle.taking.specs.Parts.{wider_by, off_top}
use Rattle.taking.proofs.Opened.is_on_top.Goals as goal
use Rattle.taking.proofs.Opened.is_on_top.Goals.{then-used-eq0-via-then-used-eq0, then-used-eq0-via-else-used-eq0+then-x-y-lt32}

pub loop-k-init : goal.loop-k-init
loop-k-init c = any_none _

pub returns-then-used-eq0 : goal.returns-then-used-eq0
returns-then-used-eq0 c =
    let v = c.args.self.now in
    let k = c.loop-k.k in
    let y = get_or c.args.stacks.now (k * v.order.room) 0 in
    let off = off_top v c.args.stacks.now (wider_by c.args.first.0) in
    let here = get_or-take c.sizes-sizes.result v.used k 0 (omega arith) in
    let same = equal_by_bits 32 c.wider-x.result.0 y (omega arith) (omega arith) in
    elim c.then-used-eq0.branch [
      | then-used-eq0-via-then-used-eq0 w ↦
          simp (any_yes (sizesOf v.order) k off (omega arith) (simp (eq-eqb _ _ (sym here ∙ w.if-used-eq0.true))))
      | then-used-eq0-via-else-used-eq0+then-x-y-lt32 w ↦
          simp (any_yes (sizesOf v.order) k off (omega arith) (grind (arith, same, c.wider-x.ensures)))
    ]

pub loop-k-preserved : goal.loop-k-preserved
loop-k-preserved c =
    let v = c.args.self.now in
    let k = c.loop-k.k in
    let y = get_or c.args.stacks.now (k * v.order.room) 0 in
    let here = get_or-take c.sizes-sizes.result v.used k 0 (omega arith) in
    let same = equal_by_bits 32 c.wider-x.result.0 y (omega arith) (omega arith) in
    any_more k (off_top v c.args.stacks.now (wider_by c.args.first.0)) c.loop-k.invariant
    (grind (arith, here, same, c.wider-x.ensures))
