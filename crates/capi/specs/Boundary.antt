-- The library's calls as C makes them (SCOPE, "Calls from C"): a state crosses as 15 numbers, and what stands beside an answer goes to
-- a number or two that the caller lends. Each call is the library's own; strip's contract is `Strips` itself. Assumes nothing.
use Rattle.std.specs.Prelude.{ℕ, ◌≡◌, List, [], ◌∷◌, Float, drop, get_or}
use Rattle.lists.specs.Tests.{settled}
use Rattle.cache.specs.Cache.{Given}
use Rattle.order.specs.declared.Order.{Order}
use Rattle.taking.specs.declared.Opened.{Opened}
use Rattle.taking.specs.declared.Ratios.{Ratios}
use Rattle.taking.specs.World.{World}
use Rattle.taking.specs.Opening.{open_answer, opened, unopened}
use Rattle.taking.specs.Taking.{take_answer, taken}
use Rattle.taking.specs.Questions.{misses_of}
use Rattle.taking.specs.Ratios.{ratios_of}

-- ---- what crosses

-- the order's six numbers, the references taken, and the used length of each stack
abbrev pub state_of : List ℕ → Opened
state_of l = record {
  order = record {
    bmin = record { 0 = get_or l 0 0 };
    bmax = record { 0 = get_or l 1 0 };
    smax = get_or l 2 0;
    ways = get_or l 3 0;
    room = get_or l 4 0;
    refs = get_or l 5 0;
  };
  taken = get_or l 6 0;
  used = drop 7 l;
}

abbrev pub numbers_of : Opened → List ℕ
numbers_of v =
    v.order.bmin.0 ∷ v.order.bmax.0 ∷ v.order.smax ∷ v.order.ways ∷ v.order.room ∷ v.order.refs
    ∷ v.taken
    ∷ v.used

-- the state that the numbers say, and it says no others
pub record Says (numbers : List ℕ) (v : Opened) : Type 0 where
  pub state : v ≡ state_of numbers
  pub numbers_back : numbers_of v ≡ numbers

-- what is lent: the numbers of a state, and both tables
pub record Lent : Type 0 where
  pub numbers : List ℕ
  pub stacks : List ℕ
  pub counts : List ℕ

abbrev pub lent : List ℕ → List ℕ → List ℕ → Lent
lent l st ct = record { numbers = l; stacks = st; counts = ct }

-- the world that it says; its tables with no order opened yet; and a world as it is lent
abbrev pub world_in : Lent → World
world_in l = record { state = state_of l.numbers; stacks = l.stacks; counts = l.counts }

abbrev pub tables_in : Lent → World
tables_in l = unopened l.stacks l.counts

abbrev pub lent_by : World → Lent
lent_by w = record { numbers = numbers_of w.state; stacks = w.stacks; counts = w.counts }

-- ---- opening and taking

-- a call that answers `due` leaves `new` where that is 0, else `old`
pub record Leaves (due : ℕ) (new old : Lent) (n : ℕ) (l' : Lent) : Type 0 where
  pub answer : n ≡ due
  pub left : l' ≡ settled due new old

-- a refused opening leaves a state of zeros, and both tables as they were
abbrev pub CallsOpen : Order → Lent → ℕ → Lent → Type 0
CallsOpen o l n l' = Leaves (open_answer o (tables_in l)) (lent_by (opened o (tables_in l))) (lent_by (tables_in l)) n l'

-- a refused taking leaves all as it was
abbrev pub CallsTake : Lent → Given → ℕ → Lent → Type 0
CallsTake l g n l' = Leaves (take_answer (world_in l) g) (lent_by (taken (world_in l) g)) l n l'

-- ---- the questions: the state and the counts are as they were

-- the misses m
pub record CallsMisses (numbers ct : List ℕ) (b s w n m : ℕ) : Type 0 where
  pub answer : n ≡ (misses_of (state_of numbers) ct b s w).answer
  pub misses : m ≡ (misses_of (state_of numbers) ct b s w).misses

-- the miss ratio, then the traffic ratio
abbrev pub both_of : Ratios → List Float
both_of q = q.miss ∷ q.traffic ∷ []

pub record CallsRatios (numbers ct : List ℕ) (b s w n : ℕ) (both : List Float) : Type 0 where
  pub answer : n ≡ (ratios_of (state_of numbers) ct b s w).answer
  pub ratios : both ≡ both_of (ratios_of (state_of numbers) ct b s w).ratios
