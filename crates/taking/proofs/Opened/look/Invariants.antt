-- `look` meets its contract. Outer loop: the sizes passed are looked at, and the walks to come are blank. Inner loop: the entries passed are
-- counted (`Walking`). Assumes nothing.
use Rattle.std.proofs.Common.{◌≡◌, ℕ, ◌<◌, ◌≤◌, length, get_or}
use Rattle.order.specs.Limits.{rows}
use Rattle.taking.specs.Parts.{Walked, walk_of, wider_by}
use Rattle.taking.specs.Places.{stack_at}
use Rattle.taking.proofs.LookLaws.{Walking}
use Rattle.taking.proofs.Opened.look.Given as goal

abbrev pub invariant-loop-k : goal.invariant-loop-k
invariant-loop-k l = record {
  eight : length l.walks ≡ 8;
  looked : (j : ℕ) → j < l.k → Walked (rows l.self.order) (stack_at l.self l.stacks j) (wider_by l.first.0 j) (walk_of l.walks j);
  long : (j : ℕ) → l.k ≤ j → j < 8 → length (walk_of l.walks j).depths ≡ 15;
  blank : (j s : ℕ) → l.k ≤ j → get_or (walk_of l.walks j).depths s 0 ≡ 0;
}

abbrev pub invariant-loop-i : goal.invariant-loop-i
invariant-loop-i l = Walking l.rows l.stack l.x.0 l.i l.walk.depths
