-- Calls one after the other: each is handed the state that the one before handed back, and the tables are untouched in between.
-- A call is anything within its contract. Assumes nothing.
use Rattle.std.specs.Prelude.{ℕ, suc, ◌≡◌, List, [], ◌∷◌}
use Rattle.cache.specs.Cache.{Given}
use Rattle.taking.specs.declared.Opened.{Opened}
use Rattle.taking.specs.Questions.{Counted, misses_of}
use Rattle.taking.specs.Ratios.{Rated, ratios_of}
use Rattle.taking.specs.Taking.{Takes}
use Rattle.taking.specs.World.{World, world}

-- what is called: something is given to be taken, or the cache (b, s, w) is asked for its misses or its ratios
pub data Call : Type 0 where
  give : Given → Call
  ask_misses : ℕ → ℕ → ℕ → Call
  ask_ratios : ℕ → ℕ → ℕ → Call

-- the state that a question hands back, over the tables, which it cannot change
abbrev pub handed_back : Opened → World → World
handed_back v w = world v w.stacks w.counts

-- the calls lead from w to w', and l is what was taken of it, in order: a refused taking adds nothing, and no question does
pub data Calls : World → List Call → List Given → World → Type 0 where
  none : {w : World} → Calls w [] [] w
  taken : {w w' w'' : World} {g : Given} {cs : List Call} {l : List Given} → Takes w g 0 w'
      → Calls w' cs l w'' → Calls w (give g ∷ cs) (g ∷ l) w''
  refused : {w w' w'' : World} {g : Given} {n : ℕ} {cs : List Call} {l : List Given} → Takes w g (suc n) w'
      → Calls w' cs l w'' → Calls w (give g ∷ cs) l w''
  counted : {w w'' : World} {b s n : ℕ} {q : Counted} {cs : List Call} {l : List Given} → q ≡ misses_of w.state w.counts b s n
      → Calls (handed_back q.state w) cs l w'' → Calls w (ask_misses b s n ∷ cs) l w''
  rated : {w w'' : World} {b s n : ℕ} {q : Rated} {cs : List Call} {l : List Given} → q ≡ ratios_of w.state w.counts b s n
      → Calls (handed_back q.state w) cs l w'' → Calls w (ask_ratios b s n ∷ cs) l w''
