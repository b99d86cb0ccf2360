-- The caches of an order in the order of the table: b, then s, then w upward; and the walk over them, one after the other. Assumes nothing.
use Rattle.std.specs.Prelude.{ℕ, zero, suc, ◌+◌, ◌-◌, ◌≡◌, cond, List, [], ◌∷◌, ◌++◌, ltb, None, Some}
use Rattle.std.specs.declared.option.Option.{Option}
use Rattle.std.specs.Iterator.{YieldsFirst}
use Rattle.order.specs.declared.Cache.{Cache}
use Rattle.order.specs.declared.Order.{Order}
use Rattle.printing.specs.declared.Walk.{Walk}

-- for a, a + 1, .. up to a + n
unfoldable pub each_from : {A : Type 0} → (ℕ → List A) → ℕ → ℕ → List A
each_from f a zero = f a
each_from f a (suc n) = f a ++ each_from f (a + 1) n

-- the cache (b, s, w)
abbrev pub at : ℕ → ℕ → ℕ → Cache
at b s w = record { b = record { 0 = b }; s = s; w = w }

-- THE GRID
abbrev pub grid_of : Order → List Cache
grid_of o =
    each_from (λ b. each_from (λ s. each_from (λ w. at b s w ∷ []) 1 (o.ways - 1)) 0 o.smax) o.bmin.0 (o.bmax.0 - o.bmin.0)

abbrev pub first_cache : Order → Option Cache
first_cache o = Some (at o.bmin.0 0 1)

-- the next cache; after the last there is none
abbrev pub next_cache : Order → Cache → Option Cache
next_cache o c =
    cond (ltb c.w o.ways) (Some (at c.b.0 c.s (c.w + 1)))
    (cond (ltb c.s o.smax) (Some (at c.b.0 (c.s + 1) 1))
    (cond (ltb c.b.0 o.bmax.0) (Some (at (c.b.0 + 1) 0 1)) None))

-- the walk from a cache on: these caches, and then it is over
pub data Walks (o : Order) : Option Cache → List Cache → Type 0 where
  ended : Walks o None []
  goes : {c : Cache} {more : List Cache} → Walks o (next_cache o c) more → Walks o (Some c) (c ∷ more)

-- ---- what a walk has left

-- the n lists after the one for a
unfoldable pub each_after : {A : Type 0} → (ℕ → List A) → ℕ → ℕ → List A
each_after f a zero = []
each_after f a (suc n) = f (a + 1) ++ each_after f (a + 1) n

-- the caches of b and s from w on, and those of b
abbrev pub ways_from : Order → ℕ → ℕ → ℕ → List Cache
ways_from o b s w = each_from (λ w. at b s w ∷ []) w (o.ways - w)

abbrev pub caches_of : Order → ℕ → List Cache
caches_of o b = each_from (λ s. ways_from o b s 1) 0 o.smax

-- from a cache on: those of its b and s, then those of its b, then the others
abbrev pub from_cache : Order → Option Cache → List Cache
from_cache o None = []
from_cache o (Some c) =
    ways_from o c.b.0 c.s c.w ++ (each_after (λ s. ways_from o c.b.0 s 1) c.s (o.smax - c.s) ++ each_after (caches_of o) c.b.0 (o.bmax.0 - c.b.0))

abbrev pub caches_left : Walk → List Cache
caches_left v = from_cache v.order v.next

-- `next` leads from v to v' and gives r: the first of them, and the order stays
abbrev pub WalkSteps : Walk → Option Cache → Walk → Type 0
WalkSteps v r v' = YieldsFirst caches_left v r v' × (v'.order ≡ v.order)
