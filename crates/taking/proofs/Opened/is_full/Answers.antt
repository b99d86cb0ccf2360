-- `is_full` meets its contract: the walks of the order's sizes are looked at. Assumes nothing.
use Rattle.std.proofs.Common.{◌≡◌, [], rules, ◌∙◌, leb, take, arith}
use Rattle.std.specs.List.{list_any}
use Rattle.std.proofs.lemmas.Iterator.{YieldsList-from_slice}
use Rattle.std.proofs.lemmas.Iterator.Search.{any_from_yields_List}
use borrow.Author.Tests.{tests}
use Rattle.lists.proofs.AnyLaws.{any_listed}
use Rattle.order.specs.Limits.{sizes}
use Rattle.taking.specs.declared.references.Walk.{Walk}
use Rattle.taking.proofs.Opened.is_full.Goals as goal

pub returns : goal.returns
returns c =
    let v = c.args.self.now in
    let ws = c.args.walks.now in
    let past = λ (w : Walk). leb v.order.room w.place in
    let e : c.any.result ≡ list_any past (take c.sizes.result ws) =
    any_from_yields_List past _ _ _ c.any.ensures.ran (YieldsList-from_slice _ c.iter.ensures.rest) (λ x b q k. search (rules, tests)) in
    rw c.sizes.ensures at e ∙ any_listed past ws (record { place = 0; depths = [] }) (sizes v.order) (omega arith)
