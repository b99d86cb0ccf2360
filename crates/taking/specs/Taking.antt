-- Taking what is given, a reference or a flush (SCOPE, "The stack and the counts" and "Flushing"): each block size takes its events. A reference
-- is refused with 1 to 7, a flush with 1, 2, 4, in that order. Assumes nothing.
use Rattle.std.specs.Prelude.{ℕ, ◌+◌, ◌≡◌, Bool, not, ◌||◌, List, [], ◌∷◌, eqb, ltb, length}
use Rattle.lists.specs.Runs.{after, any_on}
use Rattle.lists.specs.Tests.{first_of, settled, any_to}
use Rattle.units.specs.Refusals.{outside_limits, short_stacks, short_counts, foreign_state, refs_reached, stack_full, count_over}
use Rattle.cache.specs.Cache.{Event, Given, ref, flush, events_at}
use Rattle.order.specs.declared.Order.{Order}
use Rattle.order.specs.Limits.{within, sizes, stack_need, count_need}
use Rattle.sizes.specs.Size.{Size, size_step, is_full, is_over}
use Rattle.taking.specs.Places.{used_of}
use Rattle.taking.specs.World.{World, size_at, with_sizes}
use Rattle.taking.specs.declared.Opened.{Opened}

-- the events of what is given, at block size k
abbrev pub events_in : World → Given → ℕ → List Event
events_in w g k = events_at (w.state.order.bmin.0 + k) g

-- each block size after its events
abbrev pub taken : World → Given → World
taken w g = with_sizes w (λ (k : ℕ). after (size_step w.state.order) (size_at w k) (events_in w g k))

-- ---- the refusals

-- a used length above room for a block size of the order, or references above refs
abbrev pub is_foreign : Opened → Bool
is_foreign v = any_to (sizes v.order) (λ (k : ℕ). ltb v.order.room (used_of v k)) || ltb v.order.refs v.taken

-- at some block size an event passes the test
abbrev pub some_size : (Order → Size → Event → Bool) → World → Given → Bool
some_size p w g = any_to (sizes w.state.order) (λ (k : ℕ). any_on (size_step w.state.order) (p w.state.order) (size_at w k) (events_in w g k))

-- the first of a reference's 1 to 7 that applies, else 0; of a flush's 1, 2, 4, which looks at no count
abbrev pub take_answer : World → Given → ℕ
take_answer w (ref a) =
    first_of
    ((not (within w.state.order), outside_limits)
    ∷ (ltb (length w.stacks) (stack_need w.state.order), short_stacks)
    ∷ (ltb (length w.counts) (count_need w.state.order), short_counts)
    ∷ (is_foreign w.state, foreign_state)
    ∷ (eqb w.state.taken w.state.order.refs, refs_reached)
    ∷ (some_size is_full w (ref a), stack_full)
    ∷ (some_size is_over w (ref a), count_over)
    ∷ [])
take_answer w flush =
    first_of
    ((not (within w.state.order), outside_limits)
    ∷ (ltb (length w.stacks) (stack_need w.state.order), short_stacks)
    ∷ (is_foreign w.state, foreign_state)
    ∷ [])

-- THE CONTRACT of `take_ref` and of `flush`: a call that is given g answers n and leads from w to w'
pub record Takes (w : World) (g : Given) (n : ℕ) (w' : World) : Type 0 where
  pub answer : n ≡ take_answer w g
  pub left : w' ≡ settled (take_answer w g) (taken w g) w
