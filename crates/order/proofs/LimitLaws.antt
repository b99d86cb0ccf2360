-- What an order's limits say: the answer of `is_within` as a fact, how large the needs can get, and the counts needed by block size.
-- Assumes nothing.
use Prim.Native.Nat.{◌*◌, ◌≤◌}
use mathlib.Core.Path.{◌≡◌, sym, ◌∙◌}
use mathlib.Core.Bool.{Bool, true, false, not}
use native.Mathlib.Nat.{mul-le-mul, mul_assoc}
use native.Mathlib.Omega.{arith}
use borrow.Author.Tests.{not-true, not-false}
use Rattle.lists.specs.Tests.{All≤}
use Rattle.lists.proofs.TestLaws.{all_facts}
use Rattle.order.specs.declared.Order.{Order}
use Rattle.order.specs.Limits.{limits, within, sizes, rows, span, stack_need, count_need}

-- the answer r of `is_within`, tested by `!`
module _ (o : Order) (r : Bool) (e : r ≡ within o) where
  pub within_no : not r ≡ true → within o ≡ false
  within_no h = sym e ∙ not-true r h

  pub within_test : not r ≡ false → within o ≡ true
  within_test h = sym e ∙ not-false r h

  pub within_yes : not r ≡ false → All≤ (limits o)
  within_yes h = all_facts (limits o) (within_test h)

-- how large the needs of an order within its limits get
pub record Small (o : Order) : Type 0 where
  pub stacks : stack_need o ≤ 8388608
  pub rows : sizes o * rows o ≤ 120
  pub counts : count_need o ≤ 1920

pub needs_small : (o : Order) → All≤ (limits o) → Small o
needs_small o f = record {
  stacks = mul-le-mul {n₂ = 8} {m₂ = 1048576} few (omega (arith, f));
  rows = groups;
  counts = mul-le-mul {n₂ = 120} {m₂ = 16} groups (omega (arith, f));
}
  where
    few : sizes o ≤ 8
    few = omega (arith, f)

    groups : sizes o * rows o ≤ 120
    groups = mul-le-mul {n₂ = 8} {m₂ = 15} few (omega (arith, f))

-- the counts an order needs, by block size
pub need_spans : (o : Order) → count_need o ≡ sizes o * span o
need_spans o = mul_assoc (sizes o) (rows o) o.ways
