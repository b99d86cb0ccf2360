-- `size_over` meets its contract: no count of the rows passed is over, and from the first depth of 0 on it lies with the first counts. Assumes nothing.
use Rattle.std.proofs.Common.{sym, ◌∙◌, arith}
use lib.ListN.{length-drop}
use borrow.Author.Tests.{lt-ltb, le-ltb, le-leb, lt-leb}
use Rattle.lists.specs.Tables.{over_row}
use Rattle.lists.proofs.PartLaws.{part_rest}
use Rattle.lists.proofs.TestLaws.{any_none, any_more, any_yes}
use Rattle.lists.proofs.TopRowLaws.{over_at, over_tops, tops_in}
use Rattle.taking.specs.Parts.{depth_in}
use Rattle.taking.proofs.counting.size_over.Goals as goal
use Rattle.taking.proofs.counting.size_over.Goals.{else-d-ways-via-then-d-ways+else-counts-s, else-d-ways-via-else-d-ways}

pub loop-s-init : goal.loop-s-init
loop-s-init c = any_none _

pub tops_over-requires : goal.tops_over-requires
tops_over-requires c =
    let a = c.args in
    let s = c.loop-s.s in
    rw part_rest (rw length-drop (tops_in a.ways (depth_in a.depths.now) a.counts.now s _ (omega arith) c.requires.falling c.if-d-eq0.true _ c.requires.inside), c.requires.some)

pub returns-then-d-eq0 : goal.returns-then-d-eq0
returns-then-d-eq0 c =
    let a = c.args in
    let s = c.loop-s.s in
    simp part_rest at c.tops_over.ensures
    ∙ over_tops a.ways (depth_in a.depths.now) a.counts.now s _ (omega arith) c.requires.falling c.if-d-eq0.true a.taken c.requires.some c.loop-s.invariant

pub returns-then-counts-s : goal.returns-then-counts-s
returns-then-counts-s c =
    let a = c.args in
    let s = c.loop-s.s in
    let p = over_row a.ways 0 (depth_in a.depths.now) a.taken a.counts.now in
    sym (any_yes _ s p (omega arith) (over_at a.ways (depth_in a.depths.now) a.taken a.counts.now s ∙ simp (lt-ltb _ _ c.if-d-ways.true, le-leb _ _ c.if-counts-s.true)))

pub loop-s-preserved : goal.loop-s-preserved
loop-s-preserved c =
    let a = c.args in
    let s = c.loop-s.s in
    let p = over_row a.ways 0 (depth_in a.depths.now) a.taken a.counts.now in
    any_more s p c.loop-s.invariant
    (over_at a.ways (depth_in a.depths.now) a.taken a.counts.now s
    ∙ elim c.else-d-ways.branch [
      | else-d-ways-via-then-d-ways+else-counts-s w ↦ simp (lt-ltb _ _ w.if-d-ways.true, lt-leb _ _ w.if-counts-s.false)
      | else-d-ways-via-else-d-ways w ↦ simp (le-ltb _ _ w.if-d-ways.false)
    ])
