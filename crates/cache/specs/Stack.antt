-- The stack of one block size and the depth of a block in it (SCOPE, "The stack and the counts").
-- Assumes nothing.
use Rattle.std.specs.Prelude.{ℕ, Bool, true, false, cond, ◌&&◌, ◌||◌, List, [], ◌∷◌, eqb, ltb, length}
use Rattle.lists.specs.Members.{mem, remove, above, keep}
use Rattle.lists.specs.Runs.{answers, after}
use Rattle.cache.specs.Cache.{set_of, Event, touch, empty, Answer, hit, miss, none, Given, events_of}

-- A touch: the block goes to the top. Blocks that were above it move down one, the others stay; under a new block all move down one.
-- A cache that is emptied empties the stack
abbrev pub stack_step : List ℕ → Event → List ℕ
stack_step st (touch x) = x ∷ remove x st
stack_step st empty = []

-- no event empties the cache
abbrev pub never_emptied : List Event → Bool
never_emptied [] = true
never_emptied (touch x ∷ es) = never_emptied es
never_emptied (empty ∷ es) = false

-- some event touches block x, and none after it empties the cache: then, and only then, it is in the stack (proofs/SeenLaws.antt)
abbrev pub is_seen : ℕ → List Event → Bool
is_seen x [] = false
is_seen x (touch y ∷ es) = eqb x y && never_emptied es || is_seen x es
is_seen x (empty ∷ es) = is_seen x es

-- the distinct blocks of 2^b bytes seen over a list of given things since its last flush, most recent first
abbrev pub seen_in : ℕ → List Given → List ℕ
seen_in b l = after stack_step [] (events_of b l)

-- how many blocks above x in the stack have its set number at 2^s sets
abbrev pub depth : ℕ → ℕ → List ℕ → ℕ
depth s x st = length (keep (λ y. eqb (set_of s x) (set_of s y)) (above x st))

-- where the block of an event stands: at a depth, or it is new; and the event may have none
pub data Place : Type 0 where
  at : ℕ → Place
  new : Place
  nowhere : Place

abbrev pub stack_place : ℕ → List ℕ → Event → Place
stack_place s st (touch x) = cond (mem x st) (at (depth s x st)) new
stack_place s st empty = nowhere

-- the place at 2^s sets of each event's block, as the event comes
abbrev pub places : ℕ → List Event → List Place
places s es = answers stack_step (stack_place s) [] es

-- a hit in w ways exactly where the block is in the stack and its depth is below w
abbrev pub verdict : ℕ → Place → Answer
verdict w (at d) = cond (ltb d w) hit miss
verdict w new = miss
verdict w nowhere = none

-- 1 where the block was found at depth d, else 0: what the count for d goes up by
abbrev pub at_depth : ℕ → Place → ℕ
at_depth d (at k) = cond (eqb d k) 1 0
at_depth d new = 0
at_depth d nowhere = 0
