-- The limits of an order's numbers (SCOPE, "The order's numbers"), and what its constructor answers.
-- Assumes nothing.
use Rattle.std.specs.Prelude.{ℕ, ◌-◌, ◌+◌, ◌*◌, ◌≡◌, Bool, cond, not, List, [], ◌∷◌, Result}
use Rattle.std.specs.Result.{result_unwrap_or}
use Rattle.lists.specs.Tests.{first_of, all_le}
use Rattle.units.specs.declared.refusal.Refusal.{Refusal}
use Rattle.units.specs.Refusals.{outside_limits, answer_of}
use Rattle.order.specs.declared.Order.{Order}

-- the block sizes: bmin to bmax
abbrev pub sizes : Order → ℕ
sizes o = o.bmax.0 - o.bmin.0 + 1

-- every s from 0 to smax
abbrev pub rows : Order → ℕ
rows o = o.smax + 1

-- the counts of one block size: for each s, one for each depth below `ways`
abbrev pub span : Order → ℕ
span o = rows o * o.ways

-- how many entries the order needs of the stack table and of the count table
abbrev pub stack_need : Order → ℕ
stack_need o = sizes o * o.room

abbrev pub count_need : Order → ℕ
count_need o = sizes o * rows o * o.ways

-- the exponents of a block size in bytes and of a number of sets, of an order and of a strip alike
abbrev pub b_least : ℕ
b_least = 2

abbrev pub b_most : ℕ
b_most = 12

abbrev pub s_most : ℕ
s_most = 14

-- at most 8 block sizes; smax is at most 14, so at most 15 rows
abbrev pub sizes_most : ℕ
sizes_most = 8

abbrev pub rows_most : ℕ
rows_most = 15

-- in each pair the first is at most the second
abbrev pub limits : Order → List (ℕ × ℕ)
limits o =
    (b_least, o.bmin.0) ∷ (o.bmax.0, b_most) ∷ (o.bmin.0, o.bmax.0) ∷ (sizes o, sizes_most)
    ∷ (o.smax, s_most)
    ∷ (1, o.ways) ∷ (o.ways, 16)
    ∷ (1, o.room) ∷ (o.room, 1048576)
    ∷ (1, o.refs) ∷ (o.refs, 4000000000)
    ∷ []

abbrev pub within : Order → Bool
within o = all_le (limits o)

abbrev pub zero_order : Order
zero_order = record { bmin = record { 0 = 0 }; bmax = record { 0 = 0 }; smax = 0; ways = 0; room = 0; refs = 0 }

-- THE CONTRACT of the constructor, for the order o: o itself within its limits, else 1; beside a refusal the order is zeros
pub record Checks (o : Order) (r : Result Order Refusal) : Type 0 where
  pub answer : answer_of r ≡ first_of ((not (within o), outside_limits) ∷ [])
  pub order : result_unwrap_or r zero_order ≡ cond (within o) o zero_order
