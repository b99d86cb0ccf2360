-- The walk from the first cache on is the grid: nothing is left out, and b, then s, then w go upward. Assumes nothing.
use Prim.Native.Nat.{ℕ, zero, suc, ◌+◌, ◌-◌, ◌≤◌, ◌<◌}
use mathlib.Core.Path.{◌≡◌, sym, ap, ap₂, ◌∙◌, subst}
use mathlib.Core.Bool.{true}
use mathlib.Core.List.{List, [], ◌∷◌, ◌++◌, append_assoc, append-nil}
use native.Mathlib.Omega.{arith}
use lib.Dec.{ltb}
use borrow.Author.Tests.{ltb-true, ltb-false}
use Rattle.std.specs.Prelude.{None, Some}
use Rattle.std.specs.declared.option.Option.{Option}
use Rattle.order.specs.declared.Cache.{Cache}
use Rattle.order.specs.declared.Order.{Order}
use Rattle.lists.proofs.Cases.{cases}
use Rattle.order.specs.Limits.{within}
use Rattle.printing.specs.Grid.{each_from, at, grid_of, first_cache, next_cache, Walks, ended, goes, each_after, ways_from, caches_of, from_cache}

module _ {A : Type 0} (f : ℕ → List A) where
  -- the first, and those after it
  from_first : (n a : ℕ) → each_from f a n ≡ f a ++ each_after f a n
  unfolding each_from each_after
  from_first zero a = sym (append-nil (f a))
  from_first (suc n) a = ap (f a ++◌) (from_first n (a + 1))

  module _ (a b : ℕ) where
    from_more : a < b → each_from f a (b - a) ≡ f a ++ each_from f (a + 1) (b - (a + 1))
    unfolding each_from
    from_more h = let e : b - a ≡ suc (b - (a + 1)) = omega arith in ap (each_from f a) e

    from_last : b ≤ a → each_from f a (b - a) ≡ f a
    unfolding each_from
    from_last h = let e : b - a ≡ 0 = omega arith in ap (each_from f a) e

    after_more : a < b → each_after f a (b - a) ≡ f (a + 1) ++ each_after f (a + 1) (b - (a + 1))
    unfolding each_after
    after_more h = let e : b - a ≡ suc (b - (a + 1)) = omega arith in ap (each_after f a) e

    after_last : b ≤ a → each_after f a (b - a) ≡ []
    unfolding each_after
    after_last h = let e : b - a ≡ 0 = omega arith in ap (each_after f a) e

module _ (o : Order) where
  abbrev row : ℕ → ℕ → List Cache
  row b s = ways_from o b s 1

  first_of : (b : ℕ) → caches_of o b ≡ row b 0 ++ each_after (row b) 0 (o.smax - 0)
  first_of b = let e : o.smax ≡ o.smax - 0 = omega arith in from_first (row b) o.smax 0 ∙ ap (λ (n : ℕ). row b 0 ++ each_after (row b) 0 n) e

  -- from a cache on: it, and then from the next on
  pub next_left : (c : Cache) → from_cache o (Some c) ≡ c ∷ from_cache o (next_cache o c)
  next_left c =
      let b = c.b.0 in
      let s = c.s in
      let rows = each_after (row b) s (o.smax - s) in
      let others = each_after (caches_of o) b (o.bmax.0 - b) in
      cases (ltb c.w o.ways)
      (λ e. simp e (ap (λ (l : List Cache). l ++ (rows ++ others)) (from_more (λ w. at b s w ∷ []) c.w o.ways (ltb-true c.w o.ways e))))
      (λ e.
      let one = from_last (λ w. at b s w ∷ []) c.w o.ways (ltb-false c.w o.ways e) in
      cases (ltb s o.smax)
      (λ f.
      let more = after_more (row b) s o.smax (ltb-true s o.smax f) in
      let rest = each_after (row b) (s + 1) (o.smax - (s + 1)) in
      simp (e, f) (ap₂ (λ (l m : List Cache). l ++ (m ++ others)) one more ∙ ap (c ∷◌) (append_assoc (row b (s + 1)) rest others)))
      (λ f.
      let none = after_last (row b) s o.smax (ltb-false s o.smax f) in
      cases (ltb b o.bmax.0)
      (λ g.
      let more = after_more (caches_of o) b o.bmax.0 (ltb-true b o.bmax.0 g) in
      let rest = each_after (caches_of o) (b + 1) (o.bmax.0 - (b + 1)) in
      simp (e, f, g)
      (ap₂ (λ (l m : List Cache). l ++ (m ++ others)) one none
      ∙ ap (c ∷◌) (more ∙ ap (λ (l : List Cache). l ++ rest) (first_of (b + 1)) ∙ append_assoc (row (b + 1) 0) (each_after (row (b + 1)) 0 (o.smax - 0)) rest)))
      (λ g.
      let over = after_last (caches_of o) b o.bmax.0 (ltb-false b o.bmax.0 g) in
      simp (e, f, g) (ap₂ (λ (l m : List Cache). l ++ (m ++ others)) one none ∙ ap (c ∷◌) over))))

  -- THE LAW: from the first cache on, it is the grid
  pub all_left : from_cache o (first_cache o) ≡ grid_of o
  all_left =
      let b = o.bmin.0 in
      let others = each_after (caches_of o) b (o.bmax.0 - b) in
      sym (from_first (caches_of o) (o.bmax.0 - b) b ∙ ap (λ (l : List Cache). l ++ others) (first_of b)
      ∙ append_assoc (row b 0) (each_after (row b) 0 (o.smax - 0)) others)

  -- these caches, one after the other, and then none
  walks_left : (l : List Cache) (c : Option Cache) → from_cache o c ≡ l → Walks o c l
  walks_left [] None e = ended
  walks_left (x ∷ l) None e = cc
  walks_left [] (Some c) e = let h = next_left c in cc
  walks_left (x ∷ l) (Some c) e =
      let h = next_left c in
      let same : c ≡ x = cc in
      let rest : from_cache o (next_cache o c) ≡ l = cc in
      subst (λ (d : Cache). Walks o (Some c) (d ∷ l)) same (goes (walks_left l (next_cache o c) rest))

-- so the walk over an order within its limits is the grid
pub walk_is_grid : (o : Order) → within o ≡ true → Walks o (first_cache o) (grid_of o)
walk_is_grid o e = walks_left o (grid_of o) (first_cache o) (all_left o)
