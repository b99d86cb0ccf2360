-- Opening an order over the program's tables: 2 comes exactly where sizes × room is more than the stack table has, and 3 never comes.
-- Assumes nothing.
use Prim.Native.Nat.{◌*◌, ◌≤◌}
use mathlib.Core.Path.{◌≡◌}
use mathlib.Core.Bool.{true, false, not}
use mathlib.Core.List.{[], ◌∷◌}
use native.Mathlib.Nat.{mul-le-mul}
use native.Mathlib.Omega.{arith}
use lib.Dec.{ltb}
use lib.ListN.{length}
use borrow.Author.Tests.{le-ltb}
use Rattle.lists.specs.Tests.{first_of}
use Rattle.lists.proofs.Cases.{cases}
use Rattle.lists.proofs.TestLaws.{all_facts}
use Rattle.units.specs.Refusals.{outside_limits, short_stacks}
use Rattle.order.specs.declared.Order.{Order}
use Rattle.order.specs.Limits.{limits, within, sizes, rows, count_need}
use Rattle.taking.specs.World.{World}
use Rattle.taking.specs.Opening.{open_answer}
use Rattle.reading.specs.Tables.{stack_entries, count_entries, Allotted}

-- the count table holds the counts of every order within its limits
pub counts_enough : (o : Order) → within o ≡ true → count_need o ≤ count_entries
counts_enough o e =
    let f = all_facts (limits o) e in
    let few : sizes o ≤ 8 = omega (arith, f) in
    let groups = mul-le-mul {n₁ = sizes o} {m₁ = rows o} {n₂ = 8} {m₂ = 15} few (omega (arith, f)) in
    mul-le-mul {n₁ = sizes o * rows o} {m₁ = o.ways} {n₂ = 120} {m₂ = 16} groups (omega (arith, f))

pub opening_in_program : (o : Order) (w : World) → Allotted w
    → open_answer o w ≡ first_of ((not (within o), outside_limits) ∷ (ltb stack_entries (sizes o * o.room), short_stacks) ∷ [])
opening_in_program o w a =
    cases (within o)
    (λ e.
    let enough : ltb (length w.counts) (count_need o) ≡ false =
    le-ltb (length w.counts) (count_need o) (omega (arith, a.counts, counts_enough o e)) in
    simp (e, enough, a.stacks))
    (λ e. simp e)
