-- One block size by itself (SCOPE, "The stack and the counts"): what it holds, what one event makes of that, and what has to be seen before.
-- Assumes nothing.
use Rattle.std.specs.Prelude.{ℕ, ◌+◌, ◌*◌, Bool, false, cond, ◌&&◌, List, [], ltb, length, get_or, replicate}
use Rattle.lists.specs.Members.{mem}
use Rattle.lists.specs.Sums.{sum_to}
use Rattle.lists.specs.Tables.{raised_rows, over_row}
use Rattle.lists.specs.Tests.{any_to}
use Rattle.cache.specs.Cache.{Event, touch, empty, touched}
use Rattle.cache.specs.Stack.{stack_step, depth}
use Rattle.order.specs.declared.Order.{Order}
use Rattle.order.specs.Limits.{rows, span}

-- the touches so far; the stack, top first; the counts, that for s and d at s * ways + d
pub record Size : Type 0 where
  pub total : ℕ
  pub stack : List ℕ
  pub counts : List ℕ

-- nothing touched yet
abbrev pub empty_size : Order → Size
empty_size o = record { total = 0; stack = []; counts = replicate (span o) 0 }

-- where the block is found, for each s with depth below `ways`, the count for (s, depth) goes up by one
abbrev pub counts_step : Order → Size → Event → List ℕ
counts_step o q (touch x) = cond (mem x q.stack) (raised_rows o.ways 0 (λ (s : ℕ). depth s x q.stack) (rows o) q.counts) q.counts
counts_step o q empty = q.counts

-- THE STEP: the counts go by the stack as it was, then the block goes to the top; a size that is emptied keeps its touches and its counts
abbrev pub size_step : Order → Size → Event → Size
size_step o q e = record { total = q.total + touched e; stack = stack_step q.stack e; counts = counts_step o q e }

-- ---- what has to be seen before

-- 6: the stack would have more blocks than room
abbrev pub is_full : Order → Size → Event → Bool
is_full o q e = ltb o.room (length (stack_step q.stack e))

-- 7: a count to be raised is not below the touches so far
abbrev pub is_over : Order → Size → Event → Bool
is_over o q (touch x) = mem x q.stack && any_to (rows o) (over_row o.ways 0 (λ (s : ℕ). depth s x q.stack) q.total q.counts)
is_over o q empty = false

-- ---- the question

-- the hits of 2^s sets and w ways: the counts at depths 0 to w - 1
abbrev pub hits_in : Order → List ℕ → ℕ → ℕ → ℕ
hits_in o counts s w = sum_to (λ (d : ℕ). get_or counts (s * o.ways + d) 0) w
