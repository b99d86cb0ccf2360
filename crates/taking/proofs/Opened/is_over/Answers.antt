-- `is_over` meets its contract: at no size passed was a count over. Assumes nothing.
use Rattle.std.proofs.Common.{sym, ◌∙◌, length, arith}
use lib.ListN.{length-drop}
use borrow.Author.Tests.{lt-ltb, le-ltb}
use Rattle.lists.proofs.PartLaws.{part_rest}
use Rattle.lists.proofs.TestLaws.{any_none, any_more, any_yes}
use Rattle.order.specs.Limits.{sizes}
use Rattle.taking.proofs.RowLaws.{over_size, rows_there, over_there}
use Rattle.taking.proofs.Opened.is_over.Goals as goal
use Rattle.taking.proofs.Opened.is_over.Goals.{else-walks-k-via-then-walks-k+else-size_over, else-walks-k-via-else-walks-k}

pub loop-k-init : goal.loop-k-init
loop-k-init c = any_none _

pub size_over-requires : goal.size_over-requires
size_over-requires c =
    let a = c.args in
    rw (c.rows-rows.ensures, part_rest, length-drop)
    (rows_there a.self.now (length a.counts.now) a.walks.now c.loop-k.k c.requires (omega arith))

pub returns-then-size_over : goal.returns-then-size_over
returns-then-size_over c =
    let a = c.args in
    let v = a.self.now in
    let k = c.loop-k.k in
    let over = rw (c.rows-rows.ensures, part_rest) at c.size_over.ensures in
    let here = sym (over_there v _ a.walks.now k c.requires (omega arith) a.counts.now) ∙ sym over ∙ c.if-size_over.true in
    sym (any_yes (sizes v.order) k (over_size v a.walks.now a.counts.now) (omega arith) (simp (lt-ltb _ _ c.if-walks-k.true, here)))

pub loop-k-preserved : goal.loop-k-preserved
loop-k-preserved c =
    let a = c.args in
    let v = a.self.now in
    let k = c.loop-k.k in
    any_more k (over_size v a.walks.now a.counts.now) c.loop-k.invariant
    (elim c.else-walks-k.branch [
      | else-walks-k-via-then-walks-k+else-size_over w ↦
          let over = rw (c.rows-rows.ensures, part_rest) at w.size_over.ensures in
          let here = sym (over_there v _ a.walks.now k c.requires (omega arith) a.counts.now) ∙ sym over ∙ w.if-size_over.false in
          simp (lt-ltb _ _ w.if-walks-k.true, here)
      | else-walks-k-via-else-walks-k w ↦ simp (le-ltb _ _ w.if-walks-k.false)
    ])
