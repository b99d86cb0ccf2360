-- `strip::Filter::keep` meets its contract: at a turn the filter's answer, and the room, say which law of the pass applies. Assumes nothing.
use borrow.Author.Rules.{rules}
use native.Mathlib.Omega.{arith}
use Rattle.strip.proofs.PassLaws.{pass_dropped, pass_put, pass_full}
use Rattle.strip.proofs.Filter.keep.Goals as goal
use Rattle.strip.proofs.Filter.keep.Goals.{then-not-refer, then-n-out, else-n-out, else-not-refer}

pub loop-a-preserved : goal.loop-a-preserved
loop-a-preserved c =
    let l = c.args.list.now in
    let i = c.loop-a.a-index in
    let pass = c.loop-a.invariant.0 in
    let turn = c.refer.ensures in
    elim c.if-not-refer.branch [
      | then-not-refer w ↦ elim w.if-n-out.branch [
        | then-n-out v ↦ (rw (w.out-is, w.n-is, v.out-is) (pass_put l i pass (search rules) turn w.if-not-refer.true v.if-n-out.true), omega arith)
        | else-n-out v ↦ (rw (w.out-is, w.n-is, v.out-is) (pass_full l i pass (search rules) turn w.if-not-refer.true v.if-n-out.false), omega arith)
      ]
      | else-not-refer w ↦ (rw (w.out-is, w.n-is) (pass_dropped l i pass (search rules) turn w.if-not-refer.false), omega arith)
    ]
