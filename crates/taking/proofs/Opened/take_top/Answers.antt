-- `take_top` meets its contract: the first count of every row is looked at, and goes up. Assumes nothing.
use Prim.Native.Nat.{ℕ, ◌+◌, ◌*◌}
use mathlib.Core.Path.{◌≡◌, sym, ap, ap₂, ◌∙◌}
use mathlib.Core.List.{List}
use mathlib.Core.Bool.{Bool, true, false}
use native.Mathlib.Omega.{arith}
use lib.Dec.{leb}
use lib.ListN.{length, get_or}
use Rattle.lists.specs.Tables.{raised_rows}
use Rattle.lists.specs.Tests.{any_to}
use Rattle.order.specs.Limits.{sizes as sizesOf, rows as rows_of, stack_need}
use Rattle.taking.specs.Parts.{Fit, on_top}
use Rattle.taking.specs.Places.{block_at}
use Rattle.taking.specs.Plain.{over_all}
use Rattle.taking.specs.declared.Opened.{Opened}
use Rattle.taking.proofs.OutcomeLaws.{answer_late, refused, done}
use Rattle.taking.proofs.TopLaws.{top_full, top_over_lem, top_counts, top_stacks, top_state, top_small}
use Rattle.taking.proofs.Opened.take_top.Goals as goal

-- the code's test of n counts is that of the order's tops
over_of : (v : Opened) (ct : List ℕ) {n : ℕ} {t : Bool} → n ≡ sizesOf v.order * rows_of v.order
    → t ≡ any_to n (λ (s : ℕ). leb v.taken (get_or ct (s * v.order.ways) 0))
    → any_to (sizesOf v.order * rows_of v.order) (λ (s : ℕ). leb v.taken (get_or ct (s * v.order.ways) 0)) ≡ t
over_of v ct tops e = sym (e ∙ ap (λ (n : ℕ). any_to n (λ (s : ℕ). leb v.taken (get_or ct (s * v.order.ways) 0))) tops)

-- and, where the block is on top of every stack, the page's
over_here : (v : Opened) (st ct : List ℕ) (x : ℕ → ℕ) {n : ℕ} {t : Bool} → Fit v (length st) (length ct) → on_top v st x ≡ true
    → n ≡ sizesOf v.order * rows_of v.order → t ≡ any_to n (λ (s : ℕ). leb v.taken (get_or ct (s * v.order.ways) 0))
    → over_all v st ct x ≡ t
over_here v st ct x f on tops e = sym (top_over_lem v st x (length ct) f on ct) ∙ over_of v ct tops e

-- ---- the returns
pub returns-then-tops_over : goal.returns-then-tops_over
returns-then-tops_over c = λ st a f on.
    let v = c.args.self.now in
    let ct = c.args.counts.now in
    let x = block_at v a in
    let some = over_here v st ct x f on (ap₂ ◌*◌ c.sizes.ensures c.rows.ensures) c.tops_over.ensures ∙ c.if-tops_over.true in
    refused v st ct a 7 (sym (answer_late v st ct a f c.requires.1 false true (top_full v st x (length ct) f on) some)) (λ z. omega arith)

pub raise_tops-requires : goal.raise_tops-requires
raise_tops-requires c =
    let v = c.args.self.now in
    let ct = c.args.counts.now in
    let f = c.requires.0 in
    let tops = ap₂ ◌*◌ c.sizes.ensures c.rows.ensures in
    let small = top_small v (stack_need v.order) (length ct) f ct (over_of v ct tops c.tops_over.ensures ∙ c.if-tops_over.false) in
    rw tops (record { grid = (f.wide, omega (arith, f.numbers)); raisable = small })

pub returns : goal.returns
returns c = λ st a f on.
    let v = c.args.self.now in
    let ct = c.args.counts.now in
    let x = block_at v a in
    let tops = ap₂ ◌*◌ c.sizes.ensures c.rows.ensures in
    let none = over_here v st ct x f on tops c.tops_over.ensures ∙ c.if-tops_over.false in
    let raised = ap (λ (n : ℕ). raised_rows v.order.ways 0 (λ (t : ℕ). 0) n ct) tops in
    done v st ct a (record { order = v.order; taken = v.taken + 1; used = v.used }) st c.raise_tops.new.counts f
    (answer_late v st ct a f c.requires.1 false false (top_full v st x (length ct) f on) none)
    (top_state v st x (length ct) f on)
    (top_stacks v st x (length ct) f on)
    (c.raise_tops.ensures ∙ raised ∙ top_counts v st x (length ct) f on ct)
