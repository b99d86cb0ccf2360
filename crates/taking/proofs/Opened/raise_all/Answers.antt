-- `raise_all` meets its contract: the sizes passed are raised, and a size to come has its counts as they were. Assumes nothing.
use Rattle.std.proofs.Common.{ℕ, ◌*◌, List, ◌++◌, ap, ◌∙◌, length, take, arith}
use lib.ListN.{length-drop}
use borrow.Author.Tests.{lt-ltb, le-ltb}
use Rattle.lists.proofs.PartLaws.{part_rest, put_rest}
use Rattle.lists.proofs.RaiseLaws.{groups_none, groups_yes, groups_not}
use Rattle.order.specs.Limits.{rows}
use Rattle.taking.specs.Parts.{found_by, deep_by}
use Rattle.taking.proofs.RowLaws.{rows_there, raised_there, below_there}
use Rattle.taking.proofs.Opened.raise_all.Goals as goal
use Rattle.taking.proofs.Opened.raise_all.Goals.{then-walks-k, else-walks-k}

pub loop-k-init : goal.loop-k-init
loop-k-init c = groups_none _ _ _ _ _

pub raise-requires-clause-rows : goal.raise-requires-clause-rows
raise-requires-clause-rows c =
    let a = c.args in
    rw (c.rows-rows.ensures, part_rest, length-drop, c.loop-k.auto.counts)
    (rows_there a.self.now (length a.counts.now) a.walks.now c.loop-k.k c.requires.tabled (omega arith))

pub raise-requires-clause-raisable : goal.raise-requires-clause-raisable
raise-requires-clause-raisable c =
    let a = c.args in
    let l = c.loop-k in
    rw (c.rows-rows.ensures, part_rest)
    (below_there a.self.now (length a.counts.now) a.walks.now l.k c.requires.tabled (omega arith) a.counts.now l.counts
    c.requires.none_over (lt-ltb _ _ c.if-walks-k.true) l.invariant)

pub loop-k-preserved : goal.loop-k-preserved
loop-k-preserved c =
    let a = c.args in
    let v = a.self.now in
    let l = c.loop-k in
    let f = found_by v.used a.walks.now in
    let d = deep_by a.walks.now in
    elim c.if-walks-k.branch [
      | then-walks-k w ↦
          let raised = rw (c.rows-rows.ensures, part_rest) at w.raise.ensures in
          w.counts-is
          ∙ groups_yes v.order.ways (rows v.order) f d l.k a.counts.now l.counts _ l.invariant (lt-ltb _ _ w.if-walks-k.true)
          (put_rest (l.k * c.rows-rows.result * v.order.ways) l.counts w.raise.new.counts
          ∙ rw c.rows-rows.ensures (ap (λ (q : List ℕ). take (l.k * rows v.order * v.order.ways) l.counts ++ q) raised)
          ∙ raised_there v (length a.counts.now) a.walks.now l.k c.requires.tabled (omega arith) l.counts l.auto.counts)
      | else-walks-k w ↦
          w.counts-is ∙ groups_not v.order.ways (rows v.order) f d l.k a.counts.now l.counts l.invariant (le-ltb _ _ w.if-walks-k.false)
    ]
