-- A taking over all block sizes at once, as the private functions do it: proofs/TakenLaws.antt has that it is the taking of each size.
-- A block is told by size: x k is the block at size k. No public contract cites this page. Assumes nothing.
use Rattle.std.specs.Prelude.{ℕ, ◌+◌, Bool, List, ◌∷◌}
use Rattle.lists.specs.Members.{remove}
use Rattle.lists.specs.Tables.{written_rows, set_lengths, raised_groups, over_groups}
use Rattle.order.specs.Limits.{sizes, rows}
use Rattle.taking.specs.Places.{stack_at, found_at, depth_at}
use Rattle.taking.specs.declared.Opened.{Opened}

-- a count to be raised is not below the references taken
abbrev pub over_all : Opened → List ℕ → List ℕ → (ℕ → ℕ) → Bool
over_all v st ct x = over_groups v.order.ways (rows v.order) (found_at v st x) (depth_at v st x) v.taken (sizes v.order) ct

-- the block goes to the top: blocks that were above it move down one and the others stay; under a new block all move down one
abbrev pub topped : Opened → List ℕ → (ℕ → ℕ) → ℕ → List ℕ
topped v st x k = x k ∷ remove (x k) (stack_at v st k)

-- each stack with its block on top, in its place
abbrev pub stacks_done : Opened → List ℕ → (ℕ → ℕ) → List ℕ
stacks_done v st x = written_rows v.order.room (topped v st x) (sizes v.order) st

-- at each block size where the block is found, for each s with depth below `ways`, the count for (b, s, depth) goes up by one
abbrev pub counts_done : Opened → List ℕ → List ℕ → (ℕ → ℕ) → List ℕ
counts_done v st ct x = raised_groups v.order.ways (rows v.order) (found_at v st x) (depth_at v st x) (sizes v.order) ct

-- the references taken go up by one, and each used length is that of its stack
abbrev pub state_done : Opened → List ℕ → (ℕ → ℕ) → Opened
state_done v st x = record { order = v.order; taken = v.taken + 1; used = set_lengths (topped v st x) (sizes v.order) v.used }
