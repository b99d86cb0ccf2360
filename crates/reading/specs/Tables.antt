-- The tables of the program, which no input grows (SCOPE, "Program, order lines and din lines"). Assumes nothing.
use Rattle.std.specs.Prelude.{ℕ, ◌≡◌, length}
use Rattle.taking.specs.World.{World}

-- entries of the stack table and of the count table
abbrev pub stack_entries : ℕ
stack_entries = 8192

abbrev pub count_entries : ℕ
count_entries = 1920

-- both tables have these lengths
pub record Allotted (w : World) : Type 0 where
  pub stacks : length w.stacks ≡ stack_entries
  pub counts : length w.counts ≡ count_entries
