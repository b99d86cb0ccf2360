-- `empty_all` meets its contract: the stacks passed are emptied, and a stack to come is as it was. Assumes nothing.
use Prim.Native.Nat.{ℕ}
use mathlib.Core.Path.{◌≡◌}
use mathlib.Core.List.{List, []}
use Rattle.lists.specs.Tables.{written_rows}
use Rattle.taking.specs.Parts.{zeros_for, with_lengths}
use Rattle.taking.specs.declared.Opened.{Opened}
use Rattle.taking.proofs.Opened.empty_all.Given as goal

-- k stacks are emptied
pub record Emptying (v : Opened) (st : List ℕ) (k : ℕ) (v' : Opened) (st' : List ℕ) : Type 0 where
  pub state : v' ≡ with_lengths v (λ (k : ℕ). []) k
  pub stacks : st' ≡ written_rows v.order.room (zeros_for v.used) k st

abbrev pub invariant-loop-k : goal.invariant-loop-k
invariant-loop-k l = Emptying l.initial.self l.initial.stacks l.k l.self l.stacks
