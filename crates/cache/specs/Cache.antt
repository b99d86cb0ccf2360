-- One cache by itself, (b, s, w): blocks of 2^b bytes, 2^s sets, w ways (SCOPE, "The cache being counted").
-- Nothing here knows of stacks, tables or counts: this page is what a reader must believe. Assumes nothing.
use Rattle.std.specs.Prelude.{ℕ, ◌/◌, ◌%◌, ◌^◌, Bool, true, false, cond, List, [], ◌∷◌, ◌++◌, map, eqb, take}
use Rattle.lists.specs.Members.{mem, remove}
use Rattle.lists.specs.Runs.{answers}
use Rattle.lists.specs.Sums.{total}

-- the block number of an address: the address divided by 2^b, fraction dropped
unfoldable pub block_of : ℕ → ℕ → ℕ
block_of b a = a / 2 ^ b

-- the set number of a block: the block number modulo 2^s
unfoldable pub set_of : ℕ → ℕ → ℕ
set_of s x = x % 2 ^ s

-- what a cache is given: a touch of a block, or that it is to be emptied
pub data Event : Type 0 where
  touch : ℕ → Event
  empty : Event

-- what it answers: to a touch a hit or a miss, else nothing
pub data Answer : Type 0 where
  hit : Answer
  miss : Answer
  none : Answer

-- the sets by their numbers, each a list of block numbers, most recent first
abbrev pub Sets : Type 0
Sets = ℕ → List ℕ

-- empty at the start
abbrev pub empty_sets : Sets
empty_sets i = []

-- A set's list after a reference to block x. A hit: x goes to the front. A miss: x goes to the front and the list is cut to w
abbrev pub refer : ℕ → ℕ → List ℕ → List ℕ
refer w x l = cond (mem x l) (x ∷ remove x l) (take w (x ∷ l))

-- A touch: the list of the block's own set changes so, and the others stay. A cache that is emptied: every set is empty
abbrev pub cache_step : ℕ → ℕ → Sets → Event → Sets
cache_step s w c (touch x) = λ i. cond (eqb i (set_of s x)) (refer w x (c i)) (c i)
cache_step s w c empty = empty_sets

-- a hit where the block is in its set's list, else a miss
abbrev pub cache_answer : ℕ → Sets → Event → Answer
cache_answer s c (touch x) = cond (mem x (c (set_of s x))) hit miss
cache_answer s c empty = none

-- the answers of the cache of 2^s sets and w ways to one event after the other
abbrev pub simulate : ℕ → ℕ → List Event → List Answer
simulate s w es = answers (cache_step s w) (cache_answer s) empty_sets es

abbrev pub is_hit : Answer → Bool
is_hit hit = true
is_hit miss = false
is_hit none = false

abbrev pub missed : Answer → ℕ
missed hit = 0
missed miss = 1
missed none = 0

-- 1 for a touch: what the touches are counted by
abbrev pub touched : Event → ℕ
touched (touch x) = 1
touched empty = 0

-- ---- what is given to the caches of all block sizes: a reference to an address, or a flush

pub data Given : Type 0 where
  ref : ℕ → Given
  flush : Given

-- 1 for a reference: what the references are counted by
abbrev pub referred : Given → ℕ
referred (ref a) = 1
referred flush = 0

-- 1 for a flush: what the flushes are counted by
abbrev pub flushed : Given → ℕ
flushed (ref a) = 0
flushed flush = 1

-- what it is at blocks of 2^b bytes: the touch of its block, or every set emptied
abbrev pub events_at : ℕ → Given → List Event
events_at b (ref a) = touch (block_of b a) ∷ []
events_at b flush = empty ∷ []

-- the events of one after the other
abbrev pub events_of : ℕ → List Given → List Event
events_of b [] = []
events_of b (g ∷ l) = events_at b g ++ events_of b l

-- THE MEANING of every miss count: the misses of the cache (b, s, w) over a list of given things
abbrev pub misses_over : ℕ → ℕ → ℕ → List Given → ℕ
misses_over b s w l = total missed (simulate s w (events_of b l))

-- the events of references to a list of addresses, as a strip is handed it
abbrev pub touches_of : ℕ → List ℕ → List Event
touches_of b l = events_of b (map ref l)
