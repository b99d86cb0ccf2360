-- `bump` meets its contract: the depths passed have gone up by one, and the others are as they were. Assumes nothing.
use Rattle.std.proofs.Common.{◌≡◌, ℕ, ◌+◌, ◌<◌, ◌≤◌, List, get_or}
use Rattle.taking.proofs.counting.bump.Given as goal

-- the first s are one more than they were
pub record Raised (s : ℕ) (old new : List ℕ) : Type 0 where
  pub more : (t : ℕ) → t < s → get_or new t 0 ≡ get_or old t 0 + 1
  pub others : (t : ℕ) → s ≤ t → get_or new t 0 ≡ get_or old t 0

abbrev pub invariant-loop-depth : goal.invariant-loop-depth
invariant-loop-depth l = Raised l.depth-index l.initial.depth-items l.depth-items
