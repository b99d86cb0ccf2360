-- The opened order and where things stand in its two tables (SCOPE, "The order's numbers").
-- A block size is named by k = b - bmin, from 0 to sizes - 1. Assumes nothing.
use Rattle.std.specs.Prelude.{ℕ, ◌+◌, ◌*◌, Bool, not, ◌&&◌, List, leb, get_or}
use Rattle.lists.specs.Members.{mem}
use Rattle.lists.specs.Tables.{part}
use Rattle.cache.specs.Cache.{block_of}
use Rattle.cache.specs.Stack.{depth}
use Rattle.order.specs.declared.Order.{Order}
use Rattle.order.specs.Limits.{rows, span}
use Rattle.taking.specs.declared.Opened.{Opened}

-- where the count for (b, s, d) stands
abbrev pub cell : Order → ℕ → ℕ → ℕ → ℕ
cell o k s d = (k * rows o + s) * o.ways + d

-- the used length of a stack, and the stack itself: it starts at k * room, top first
abbrev pub used_of : Opened → ℕ → ℕ
used_of v k = get_or v.used k 0

abbrev pub stack_at : Opened → List ℕ → ℕ → List ℕ
stack_at v st k = part (k * v.order.room) (used_of v k) st

-- the counts of a block size, which start at k times the counts of one
abbrev pub counts_at : Opened → List ℕ → ℕ → List ℕ
counts_at v ct k = part (k * span v.order) (span v.order) ct

-- the block of address a at size k
abbrev pub block_at : Opened → ℕ → ℕ → ℕ
block_at v a k = block_of (v.order.bmin.0 + k) a

-- whether the block at size k, x k, is in the stack; its depth there at 2^s sets
abbrev pub found_at : Opened → List ℕ → (ℕ → ℕ) → ℕ → Bool
found_at v st x k = mem (x k) (stack_at v st k)

abbrev pub depth_at : Opened → List ℕ → (ℕ → ℕ) → ℕ → ℕ → ℕ
depth_at v st x k s = depth s (x k) (stack_at v st k)

-- at block size k the block is new and its stack is full
abbrev pub full_at : Opened → List ℕ → (ℕ → ℕ) → ℕ → Bool
full_at v st x k = not (found_at v st x k) && leb v.order.room (used_of v k)
