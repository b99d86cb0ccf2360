-- `move_all` meets its contract: the stacks passed have their blocks on top, and a stack to come is as it was. Assumes nothing.
use Prim.Native.Nat.{ℕ, ◌+◌, ◌*◌, max}
use mathlib.Core.Path.{ap, ◌∙◌}
use mathlib.Core.List.{List, ◌++◌}
use native.Mathlib.Omega.{arith}
use lib.ListN.{take}
use Rattle.lists.proofs.PartLaws.{part_rest, put_rest, rows_none, rows_more}
use Rattle.taking.specs.Parts.{wider_by, walk_of}
use Rattle.taking.specs.Plain.{topped}
use Rattle.taking.proofs.MoveLaws.{topped_length, topped_there}
use Rattle.taking.proofs.UsedLaws.{lengths_start, lengths_kept, lengths_next}
use Rattle.taking.proofs.Opened.move_all.Goals as goal

pub loop-k-init : goal.loop-k-init
loop-k-init c =
    let v = c.args.self.now in
    let top = topped v c.args.stacks.now (wider_by c.args.first.0) in
    record { state = lengths_start v top; stacks = rows_none v.order.room top c.args.stacks.now }

pub loop-k-preserved : goal.loop-k-preserved
loop-k-preserved c =
    let v = c.args.self.now in
    let st = c.args.stacks.now in
    let ws = c.args.walks.now in
    let x = wider_by c.args.first.0 in
    let top = topped v st x in
    let l = c.loop-k in
    let base = l.k * v.order.room in
    let kept = lengths_kept v top l.k l.self l.invariant.state in
    let long = c.max.ensures ∙ ap (λ (u : ℕ). max u ((walk_of ws l.k).place + 1)) kept ∙ topped_length v x st ws c.requires l.k (omega arith) in
    let fronted = rw (c.wider-x.ensures, part_rest) at c.to_front.ensures in
    record {
      state = lengths_next v top l.k l.self l.invariant.state c.max.result long;
      stacks =
          rows_more v.order.room top st l.k l.stacks _ l.invariant.stacks
          (put_rest base l.stacks c.to_front.new.stack ∙ ap (λ (q : List ℕ). take base l.stacks ++ q) fronted
          ∙ topped_there v x st ws c.requires l.k (omega arith) l.stacks l.invariant.stacks);
    }
