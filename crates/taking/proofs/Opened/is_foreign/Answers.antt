-- `is_foreign` meets its contract: some used length of the order is above room, or the references are above refs. Assumes nothing.
use Prim.Native.Nat.{ℕ}
use mathlib.Core.Path.{◌≡◌, sym, ap, ◌∙◌}
use native.Mathlib.Omega.{arith}
use lib.Dec.{ltb}
use lib.ListN.{take}
use borrow.Author.Rules.{rules}
use Rattle.std.proofs.lemmas.Iterator.{YieldsList-from_slice}
use Rattle.std.proofs.lemmas.Iterator.Search.{any_from_yields_List}
use Rattle.lists.specs.Tests.{any_to}
use Rattle.lists.proofs.AnyLaws.{any_listed}
use Rattle.order.specs.Limits.{sizes as sizesOf}
use Rattle.taking.specs.Places.{used_of}
use Rattle.taking.proofs.Opened.is_foreign.Goals as goal
use Rattle.taking.proofs.Opened.is_foreign.Goals.{After-any}

-- the chain looks at each used length of the order
found : (c : After-any) →
    let v = c.args.self.now in
    any_to (sizesOf v.order) (λ (k : ℕ). ltb v.order.room (used_of v k)) ≡ c.any.result
found c =
    let v = c.args.self.now in
    let n = c.sizes-sizes.result in
    sym
    (any_from_yields_List (ltb v.order.room) _ _ _ c.any.ensures.ran (YieldsList-from_slice (take n v.used) (search rules)) (λ x b q k. search rules)
    ∙ any_listed (ltb v.order.room) v.used 0 n (omega arith)
    ∙ ap (λ (n : ℕ). any_to n (λ (k : ℕ). ltb v.order.room (used_of v k))) c.sizes-sizes.ensures)

pub returns-then-any : goal.returns-then-any
returns-then-any c = let e = found (goal.at.returns-then-any c).After-any in simp (e, c.if-any.true)

pub returns-else-any : goal.returns-else-any
returns-else-any c = let e = found (goal.at.returns-else-any c).After-any in simp (e, c.if-any.false)
