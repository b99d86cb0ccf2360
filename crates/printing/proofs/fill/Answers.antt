-- `fill` meets its contract: each turn puts one byte of the form, or one number. Assumes nothing.
use Rattle.std.proofs.Common.{rules, arith, ◌≡◌, get_or, drop}
use Rattle.std.proofs.lemmas.Grind.{common_steps}
use Rattle.printing.proofs.PutLaws.{fill_number, fill_byte, fill_all, room_mark, room_byte}
use Rattle.printing.proofs.fill.Goals as goal
use Rattle.printing.proofs.fill.Goals.{then-c-eq35, else-c-eq35}

pub put_number-end-requires : goal.put_number-end-requires
put_number-end-requires c = omega (arith, room_mark _ _ _ _ _ _ _ c.loop-c.invariant c.loop-c-test.true c.if-c-eq35.true)

pub bounds-out-end : goal.bounds-out-end
bounds-out-end c = omega (arith, room_byte _ _ _ _ _ _ _ c.loop-c.invariant c.loop-c-test.true c.if-c-eq35.false)

pub loop-c-preserved : goal.loop-c-preserved
loop-c-preserved c =
    let l = c.loop-c in
    let a = c.args in
    elim c.if-c-eq35.branch [
      | then-c-eq35 w ↦
          let first : w.unwrap_or-n.result ≡ get_or l.numbers.rest.now 0 0 = grind (arith, common_steps) in
          let rest : w.next.new.self.rest.now ≡ drop 1 l.numbers.rest.now = grind (arith, common_steps) in
          rw (w.out-is, w.numbers-is, w.end-is)
          (fill_number _ _ _ _ _ _ _ l.invariant c.loop-c-test.true w.if-c-eq35.true _ _ first rest _ _ w.put_number-end.ensures)
      | else-c-eq35 w ↦ rw (w.out-is, w.numbers-is, w.end-is) (fill_byte _ _ _ _ _ _ _ l.invariant c.loop-c-test.true w.if-c-eq35.false)
    ]

pub returns : goal.returns
returns c = fill_all _ _ _ _ _ _ _ c.loop-c.invariant (search rules)
