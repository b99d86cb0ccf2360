-- `take_deep` meets its contract: what the walks found is the page's, so the tests are, and what is raised and moved. Assumes nothing.
use Prim.Native.Nat.{ℕ, ◌+◌}
use mathlib.Core.Path.{◌≡◌, refl, sym, ap, ◌∙◌, subst}
use mathlib.Core.Bool.{true, false}
use mathlib.Core.List.{List}
use native.Mathlib.Omega.{arith}
use Rattle.cache.specs.Cache.{block_of}
use Rattle.taking.specs.Places.{block_at}
use Rattle.taking.specs.Parts.{Looked, Moved, wider_by}
use Rattle.taking.specs.declared.Opened.{Opened}
use Rattle.taking.specs.declared.references.Walk.{Walk}
use Rattle.taking.proofs.NeedLaws.{fit_walk}
use Rattle.taking.proofs.OutcomeLaws.{answer_late, refused, done, same_blocks}
use Rattle.taking.proofs.OutcomeLaws.{full_is, over_is, counts_is, tabled, roomed}
use Rattle.taking.proofs.Opened.take_deep.Goals as goal

-- the blocks of the address are those that the walks looked for
seen_at : (v : Opened) (a first : ℕ) (st : List ℕ) (ws : List Walk) → first ≡ block_of v.order.bmin.0 a → Looked v st (wider_by first) ws
    → Looked v st (block_at v a) ws
seen_at v a first st ws e looked = subst (λ (x : ℕ → ℕ). Looked v st x ws) (same_blocks v a first e) looked

-- ---- what the calls require
pub look-walks-requires : goal.look-walks-requires
look-walks-requires c = fit_walk _ _ _ c.requires.0

pub is_full-requires : goal.is_full-requires
is_full-requires c = let f = c.requires.0 in omega (arith, f.numbers)

pub is_over-requires : goal.is_over-requires
is_over-requires c = tabled _ _ _ _ _ c.requires.0 c.look-walks.ensures

pub raise_all-requires : goal.raise_all-requires
raise_all-requires c = record {
  tabled = tabled _ _ _ _ _ c.requires.0 c.look-walks.ensures;
  none_over = sym c.is_over.ensures ∙ c.if-is_over.false;
}

pub move_all-requires : goal.move_all-requires
move_all-requires c = roomed _ _ _ _ _ c.requires.0 c.look-walks.ensures (sym c.is_full.ensures ∙ c.if-is_full.false)

-- ---- the returns
pub returns-then-is_full : goal.returns-then-is_full
returns-then-is_full c = λ a e.
    let b = c.args in
    let f = c.requires.0 in
    let full = sym (c.is_full.ensures ∙ full_is _ _ _ _ c.look-walks.result f (seen_at b.self.now a b.first.0 _ c.look-walks.result e c.look-walks.ensures)) ∙ c.if-is_full.true in
    refused b.self.now b.stacks.now b.counts.now a 6 (sym (answer_late b.self.now b.stacks.now b.counts.now a f c.requires.1 true _ full refl))
    (λ z. omega arith)

pub returns-then-is_over : goal.returns-then-is_over
returns-then-is_over c = λ a e.
    let b = c.args in
    let f = c.requires.0 in
    let seen = seen_at b.self.now a b.first.0 _ c.look-walks.result e c.look-walks.ensures in
    let full = sym (c.is_full.ensures ∙ full_is _ _ _ _ c.look-walks.result f seen) ∙ c.if-is_full.false in
    let over = sym (c.is_over.ensures ∙ over_is _ _ _ _ c.look-walks.result f seen b.counts.now) ∙ c.if-is_over.true in
    refused b.self.now b.stacks.now b.counts.now a 7 (sym (answer_late b.self.now b.stacks.now b.counts.now a f c.requires.1 false true full over))
    (λ z. omega arith)

pub returns : goal.returns
returns c = λ a e.
    let b = c.args in
    let v = b.self.now in
    let st = b.stacks.now in
    let ct = b.counts.now in
    let f = c.requires.0 in
    let seen = seen_at v a b.first.0 st c.look-walks.result e c.look-walks.ensures in
    let full = sym (c.is_full.ensures ∙ full_is _ _ _ _ c.look-walks.result f seen) ∙ c.if-is_full.false in
    let over = sym (c.is_over.ensures ∙ over_is _ _ _ _ c.look-walks.result f seen ct) ∙ c.if-is_over.false in
    let moved = subst (λ (y : ℕ → ℕ). Moved v y st c.move_all.new.self c.move_all.new.stacks) (same_blocks v a b.first.0 e) c.move_all.ensures in
    done v st ct a _ c.move_all.new.stacks c.raise_all.new.counts f (answer_late v st ct a f c.requires.1 false false full over)
    (ap (λ (w : Opened). record { order = w.order; taken = w.taken + 1; used = w.used }) moved.state)
    moved.stacks (c.raise_all.ensures ∙ counts_is v st _ _ c.look-walks.result f seen ct)
