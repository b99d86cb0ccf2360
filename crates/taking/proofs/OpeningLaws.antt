-- An order just opened is refused as its opening is; and opening what the order's constructor gives is opening the order: where it is outside its limits, it gives 1 and no order, and so would the
-- opening of zeros; what the constructor refuses is refused so, with nothing opened. Assumes nothing.
use Prim.Native.Nat.{ℕ}
use mathlib.Core.Path.{◌≡◌, sym, ap, ◌∙◌, subst}
use mathlib.Core.Bool.{Bool, false, cond}
use native.Mathlib.Omega.{arith}
use lib.Dec.{ltb}
use lib.ListN.{length}
use borrow.Author.Tests.{le-ltb}
use Rattle.std.specs.Prelude.{Result, Err}
use Rattle.std.specs.Result.{result_unwrap_or}
use Rattle.units.specs.declared.refusal.Refusal.{Refusal}
use Rattle.units.specs.Refusals.{number_of}
use Rattle.units.proofs.RefusalLaws.{refused_not_done}
use Rattle.lists.specs.Tests.{all_le, any_to}
use Rattle.lists.proofs.BoolLaws.{or_both}
use Rattle.lists.proofs.Cases.{cases}
use Rattle.lists.proofs.TestLaws.{any_none_of, settled_done}
use Rattle.lists.proofs.ZeroLaws.{zeros_at}
use Rattle.order.specs.declared.Order.{Order}
use Rattle.order.specs.Limits.{within, sizes, zero_order, Checks}
use Rattle.taking.specs.Opening.{fresh, opened, open_answer, Opens}
use Rattle.taking.specs.Parts.{unfit_answer}
use Rattle.taking.specs.Places.{used_of}
use Rattle.taking.specs.Taking.{is_foreign}
use Rattle.taking.specs.World.{World}

own_fresh : (o : Order) → is_foreign (fresh o) ≡ false
own_fresh o =
    or_both (any_to (sizes o) (λ (k : ℕ). ltb o.room (used_of (fresh o) k))) (ltb o.refs 0)
    (any_none_of (sizes o) (λ (k : ℕ). ltb o.room (used_of (fresh o) k))
    (λ k h. le-ltb o.room (used_of (fresh o) k) (rw (zeros_at 8 k) (omega arith))))
    (le-ltb o.refs 0 (omega arith))

pub unfit_fresh : (o : Order) (w : World) → unfit_answer (fresh o) (length w.stacks) (length w.counts) ≡ open_answer o w
unfit_fresh o w = simp (own_fresh o)

pub opens_refused : (o : Order) (w : World) (e : Refusal) → number_of e ≡ open_answer o w → Opens o w (number_of e) w
opens_refused o w e h = record { answer = h; left = grind (arith, h) }

pub opens_done : (o : Order) (w : World) → open_answer o w ≡ 0 → Opens o w 0 (opened o w)
opens_done o w z = record { answer = sym z; left = sym (settled_done (open_answer o w) (opened o w) w z) }

pub opens_checked : (o : Order) (r : Result Order Refusal) (w : World) (n : ℕ) (w' : World) → Checks o r
    → Opens (result_unwrap_or r zero_order) w n w' → Opens o w n w'
unfolding all_le
opens_checked o r w n w' k t =
    cases (within o)
    (λ e. subst (λ (o : Order). Opens o w n w') (k.order ∙ ap (λ (x : Bool). cond x o zero_order) e) t)
    (λ e.
    let z = subst (λ (o : Order). Opens o w n w') (k.order ∙ ap (λ (x : Bool). cond x o zero_order) e) t in
    record { answer = simp e z.answer; left = simp e z.left })

pub opens_outside : (o : Order) (e : Refusal) (w : World) → Checks o (Err e) → Opens o w (number_of e) w
opens_outside o e w k =
    opens_refused o w e
    (cases (within o)
    (λ h. absurd (refused_not_done e (k.answer ∙ simp h)))
    (λ h. k.answer ∙ simp h))
