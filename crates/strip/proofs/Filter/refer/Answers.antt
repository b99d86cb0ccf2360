-- `strip::Filter::refer` meets its contract: the entry of the block's set is looked at, and put. Assumes nothing.
use Prim.Native.Nat.{ℕ, ◌^◌, ◌≤◌, ◌<◌}
use mathlib.Core.Path.{◌≡◌}
use native.Mathlib.Omega.{arith}
use Rattle.cache.specs.Cache.{set_of}
use Rattle.cache.proofs.SetLaws.{set_below}
use Rattle.strip.proofs.PassLaws.{entry_fits}
use Rattle.strip.proofs.Filter.refer.Goals as goal

-- the place is that of a set, and there are no more sets than entries
inside : (s block place len : ℕ) → place ≡ set_of s block → 2 ^ s ≤ len → place < len
inside s block place len own wide = omega (arith, own, set_below s block)

pub overflow_add-entry : goal.overflow_add-entry
overflow_add-entry c =
    let f = c.args.self.now in
    let small = entry_fits f.b.0 c.args.a.0 f.small (omega arith) in
    record { fits = omega (arith, c.block-block.ensures) }

pub bounds-self-place : goal.bounds-self-place
bounds-self-place c = let f = c.args.self.now in inside f.s _ _ _ c.set-set.ensures f.wide

pub bounds-self-place-2 : goal.bounds-self-place-2
bounds-self-place-2 c = let f = c.args.self.now in inside f.s _ _ _ c.set-set.ensures f.wide
