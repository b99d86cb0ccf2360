-- `Order::count_need` meets its contract: within the limits the product is small. Assumes nothing.
use mathlib.Core.Path.{sym, ap, ap₂, ◌∙◌}
use mathlib.Core.Bool.{not}
use Prim.Native.Nat.{◌*◌}
use native.Mathlib.Omega.{arith}
use Rattle.order.proofs.LimitLaws.{within_test, within_yes, needs_small, need_spans}
use Rattle.order.proofs.Order.count_need.Goals as goal

pub overflow_mul-result : goal.overflow_mul-result
overflow_mul-result c =
    let o = c.args.self in
    let f = within_yes o _ c.is_within.ensures (ap not c.if-not-is_within.false) in
    let same = ap₂ ◌*◌ c.sizes.ensures c.span.ensures in
    omega (arith, same, need_spans o, (needs_small o f).counts)

pub returns : goal.returns
returns c =
    let o = c.args.self in
    ap₂ ◌*◌ c.sizes.ensures c.span.ensures ∙ sym (need_spans o)
    ∙ simp (within_test o _ c.is_within.ensures (ap not c.if-not-is_within.false))
