-- `look` meets its contract: the entries passed are counted (`Walking`), and the sizes passed are looked at. Assumes nothing.
use Prim.Native.Nat.{ℕ, ◌+◌, ◌*◌, ◌<◌, ◌≤◌}
use mathlib.Core.Path.{◌≡◌, ◌∙◌}
use native.Mathlib.Nat.{add-sub_cancel_left}
use native.Mathlib.Omega.{arith}
use lib.ListN.{length, drop, set, length-take, length-set}
use Rattle.std.proofs.lemmas.List.{get_or-take}
use lib.Seq.{get_or-set_other}
use Rattle.order.specs.Limits.{rows}
use Rattle.taking.specs.Parts.{Walked, walk_of, wider_by}
use Rattle.taking.specs.Places.{used_of, stack_at}
use Rattle.taking.specs.declared.references.Walk.{Walk}
use Rattle.taking.proofs.LookLaws.{walk_on, walk_found, walk_end, count_small, looked_more}
use Rattle.taking.proofs.Opened.look.Goals as goal
use Rattle.taking.proofs.Opened.look.Goals.{then-loop-i-test+then-eq, else-loop-i-test}

pub bump-requires : goal.bump-requires
bump-requires c =
    let v = c.args.self.now in
    let k = c.loop-k.k in
    let l = c.loop-i in
    let used = get_or-take c.sizes-sizes.result v.used k 0 (omega arith) in
    let entries = length-take (used_of v k) (drop (k * v.order.room) c.args.stacks.now) in
    λ s g. let few : s < c.rows-rows.result = omega (arith, length-take c.rows-rows.result l.walk.depths) in
    let small = count_small _ _ _ l.i l.walk.depths l.invariant s few in
    let in_stack : l.i < length (stack_at v c.args.stacks.now k) = rw (add-sub_cancel_left, used) at c.loop-i-test.true in
    omega (arith, small, in_stack, entries, c.requires.used k (omega arith), c.requires.numbers)

pub loop-i-preserved : goal.loop-i-preserved
loop-i-preserved c =
    let l = c.loop-i in
    let few : c.rows-rows.result ≤ 15 = omega (arith, c.requires.numbers) in
    walk_on _ _ _ l.i l.walk.depths l.invariant c.bump.new.depths c.loop-i-test.true (grind (arith, c.if-eq.ensures)) few (omega arith) c.bump.ensures

pub loop-k-preserved : goal.loop-k-preserved
loop-k-preserved c =
    let v = c.args.self.now in
    let st = c.args.stacks.now in
    let x = wider_by c.args.first.0 in
    let k = c.loop-k.k in
    let l = c.loop-i in
    let used = get_or-take c.sizes-sizes.result v.used k 0 (omega arith) in
    let walked : Walked (rows v.order) (stack_at v st k) (x k) (record { place = c.loop-i-test.place; depths = l.walk.depths }) =
    elim c.loop-i-test.branch [
      | then-loop-i-test+then-eq w ↦
          rw w.place-is
          (rw (c.rows-rows.ensures, add-sub_cancel_left, used, c.wider-x.ensures) at
          (walk_found _ _ _ l.i l.walk.depths l.invariant w.loop-i-test.true (grind (arith, w.if-eq.ensures))))
      | else-loop-i-test w ↦
          rw (w.place-is, add-sub_cancel_left, used)
          (rw (c.rows-rows.ensures, add-sub_cancel_left, used, c.wider-x.ensures) at
          (walk_end _ _ _ l.i l.walk.depths l.invariant w.loop-i-test.false))
    ] in
    let others : (j : ℕ) → k + 1 ≤ j → walk_of (set c.loop-k.walks k (record { place = c.loop-i-test.place; depths = l.walk.depths })) j ≡ walk_of c.loop-k.walks j =
    λ j g. get_or-set_other c.loop-k.walks k j _ _ (λ e. omega arith) in
    record {
      eight = length-set c.loop-k.walks k _ ∙ c.loop-k.invariant.eight;
      looked =
          looked_more (λ (j : ℕ) (w : Walk). Walked (rows v.order) (stack_at v st j) (x j) w) c.loop-k.walks k _ (omega arith)
          c.loop-k.invariant.looked walked;
      long = λ j g h. rw (others j g) (c.loop-k.invariant.long j (omega arith) h);
      blank = λ j s g. rw (others j g) (c.loop-k.invariant.blank j s (omega arith));
    }
