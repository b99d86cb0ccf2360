-- `try_open` meets its contract: the order just opened is refused as it is to be, or both tables are zeroed. Assumes nothing.
use Prim.Native.Nat.{ℕ}
use mathlib.Core.Path.{◌≡◌, sym, ap, ◌∙◌}
use native.Mathlib.Omega.{arith}
use Rattle.std.proofs.lemmas.Result.{err_from_is_err_and}
use Rattle.lists.specs.Tables.{zeroed}
use Rattle.lists.proofs.TestLaws.{all_yes}
use Rattle.order.specs.Limits.{limits, stack_need, count_need}
use Rattle.taking.specs.Opening.{fresh, unopened}
use Rattle.taking.proofs.NeedLaws.{fit_unfit}
use Rattle.taking.proofs.OpeningLaws.{unfit_fresh, opens_refused, opens_done}
use Rattle.taking.proofs.Opened.try_open.Goals as goal

pub returns-in_err-unfit : goal.returns-in_err-unfit
returns-in_err-unfit c =
    let a = c.args in
    let w = unopened a.stacks.now a.counts.now in
    let p = err_from_is_err_and c.from_residual.result c.from_residual.ensures.1 in
    let said = rw c.fresh-opened.ensures at c.in_err-unfit.ensures in
    rw (p.1, p.2) (opens_refused a.order w c.in_err-unfit.field-0.0 (said ∙ unfit_fresh a.order w))

pub returns : goal.returns
returns c =
    let a = c.args in
    let o = a.order in
    let w = unopened a.stacks.now a.counts.now in
    let said = rw c.fresh-opened.ensures at c.in_ok-unfit.ensures in
    let fits = all_yes (limits o) (fit_unfit (fresh o) _ _ (sym said)).numbers in
    let need : c.count_need.result ≡ count_need o = c.count_need.ensures ∙ simp fits in
    let stacks : c.clear.new.table ≡ zeroed (stack_need o) w.stacks =
    c.clear.ensures ∙ ap (λ (n : ℕ). zeroed n w.stacks) (omega arith) in
    let counts : c.clear-2.new.table ≡ zeroed (count_need o) w.counts =
    c.clear-2.ensures ∙ ap (λ (n : ℕ). zeroed n w.counts) (omega arith) in
    rw (c.fresh-opened.ensures, stacks, counts) (opens_done o w (sym (said ∙ unfit_fresh o w)))
