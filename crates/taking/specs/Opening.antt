-- Opening an order (SCOPE, "The order's numbers"; its refusals 1, 2, 3). Assumes nothing.
use Rattle.std.specs.Prelude.{ℕ, ◌≡◌, not, List, [], ◌∷◌, ltb, length, replicate}
use Rattle.lists.specs.Tables.{zeroed}
use Rattle.lists.specs.Tests.{first_of, settled}
use Rattle.units.specs.Refusals.{outside_limits, short_stacks, short_counts}
use Rattle.order.specs.declared.Order.{Order}
use Rattle.order.specs.Limits.{within, zero_order, stack_need, count_need}
use Rattle.taking.specs.World.{World}
use Rattle.taking.specs.declared.Opened.{Opened}

-- the order with 0 references taken and every used length 0
abbrev pub fresh : Order → Opened
fresh o = record { order = o; taken = 0; used = replicate 8 0 }

-- no order opened yet, over these tables
abbrev pub unopened : List ℕ → List ℕ → World
unopened st ct = record { state = fresh zero_order; stacks = st; counts = ct }

-- the needed part of both tables is zeroed
abbrev pub opened : Order → World → World
opened o w = record { state = fresh o; stacks = zeroed (stack_need o) w.stacks; counts = zeroed (count_need o) w.counts }

-- the first of 1, 2, 3 that applies, else 0
abbrev pub open_answer : Order → World → ℕ
open_answer o w =
    first_of
    ((not (within o), outside_limits)
    ∷ (ltb (length w.stacks) (stack_need o), short_stacks)
    ∷ (ltb (length w.counts) (count_need o), short_counts)
    ∷ [])

-- THE CONTRACT of `open`, from the tables of an unopened w: it answers n and leads to w'
pub record Opens (o : Order) (w : World) (n : ℕ) (w' : World) : Type 0 where
  pub answer : n ≡ open_answer o w
  pub left : w' ≡ settled (open_answer o w) (opened o w) w
