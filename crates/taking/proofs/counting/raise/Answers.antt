-- `raise` meets its contract: the rows passed are raised, and from the first depth of 0 on the first counts are. Assumes nothing.
use Rattle.std.proofs.Common.{ℕ, ◌+◌, ◌*◌, ◌≤◌, ap, ◌∙◌, length, arith}
use native.Mathlib.Nat.{zero-add}
use lib.ListN.{take, length-drop}
use mathlib.Core.List.{List, ◌++◌}
use Rattle.lists.proofs.PartLaws.{part_rest, put_rest, rows_le}
use Rattle.lists.proofs.RaiseLaws.{raised_none, raised_not, raised_past}
use Rattle.lists.proofs.TopRowLaws.{raised_here, tops_in, tops_below, raised_tops}
use Rattle.taking.specs.Parts.{count_most, depth_in}
use Rattle.taking.proofs.counting.raise.Goals as goal
use Rattle.taking.proofs.counting.raise.Goals.{then-d-ways, else-d-ways}

pub loop-s-init : goal.loop-s-init
loop-s-init c = raised_none _ _ _ _

pub raise_tops-requires-clause-grid : goal.raise_tops-requires-clause-grid
raise_tops-requires-clause-grid c =
    let a = c.args in
    let l = c.loop-s in
    let inside : length a.depths.now * a.ways ≤ length l.counts = omega arith in
    rw part_rest (rw length-drop (tops_in a.ways (depth_in a.depths.now) a.counts.now l.s _ (omega arith) c.requires.rows.falling c.if-d-eq0.true _ inside), c.requires.rows.some)

pub raise_tops-requires-clause-raisable : goal.raise_tops-requires-clause-raisable
raise_tops-requires-clause-raisable c =
    let a = c.args in
    let l = c.loop-s in
    rw part_rest
    (tops_below a.ways (depth_in a.depths.now) a.counts.now l.s _ (omega arith) c.requires.rows.falling c.if-d-eq0.true count_most l.counts l.invariant c.requires.rows.some
    c.requires.raisable)

pub returns-then-d-eq0 : goal.returns-then-d-eq0
returns-then-d-eq0 c =
    let a = c.args in
    let l = c.loop-s in
    put_rest (l.s * a.ways) l.counts c.raise_tops.new.counts
    ∙ ap (λ (q : List ℕ). take (l.s * a.ways) l.counts ++ q) (simp part_rest at c.raise_tops.ensures)
    ∙ raised_tops a.ways (depth_in a.depths.now) a.counts.now l.s _ (omega arith) c.requires.rows.falling c.if-d-eq0.true l.counts l.invariant
    (omega (arith, rows_le l.s (length a.depths.now) a.ways (omega arith)))

pub overflow_add-counts-then-d-ways : goal.overflow_add-counts-then-d-ways
overflow_add-counts-then-d-ways c =
    let a = c.args in
    let l = c.loop-s in
    let d = depth_in a.depths.now in
    let at = l.s * a.ways + d l.s in
    let small = simp zero-add at (c.requires.raisable l.s (omega arith) c.if-d-ways.true) in
    let past = raised_past a.ways 0 d l.s a.counts.now at (omega (arith, zero-add l.s)) in
    rw (l.invariant, past) (omega arith)

pub loop-s-preserved : goal.loop-s-preserved
loop-s-preserved c =
    let a = c.args in
    let l = c.loop-s in
    let d = depth_in a.depths.now in
    elim c.if-d-ways.branch [
      | then-d-ways w ↦ w.counts-is ∙ raised_here a.ways d l.s a.counts.now l.counts l.invariant w.if-d-ways.true
      | else-d-ways w ↦ w.counts-is ∙ raised_not a.ways 0 d l.s a.counts.now l.counts l.invariant w.if-d-ways.false
    ]
