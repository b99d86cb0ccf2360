-- `move_all` meets its contract: the stacks passed have their blocks on top, and a stack to come is as it was. Assumes nothing.
use Prim.Native.Nat.{ℕ}
use mathlib.Core.Path.{◌≡◌}
use mathlib.Core.List.{List}
use Rattle.lists.specs.Tables.{written_rows}
use Rattle.taking.specs.Plain.{topped}
use Rattle.taking.specs.Parts.{wider_by, with_lengths}
use Rattle.taking.specs.declared.Opened.{Opened}
use Rattle.taking.proofs.Opened.move_all.Given as goal

-- k stacks have their blocks on top
pub record Moving (v : Opened) (st : List ℕ) (x : ℕ → ℕ) (k : ℕ) (v' : Opened) (st' : List ℕ) : Type 0 where
  pub state : v' ≡ with_lengths v (topped v st x) k
  pub stacks : st' ≡ written_rows v.order.room (topped v st x) k st

abbrev pub invariant-loop-k : goal.invariant-loop-k
invariant-loop-k l = Moving l.initial.self l.initial.stacks (wider_by l.first.0) l.k l.self l.stacks
