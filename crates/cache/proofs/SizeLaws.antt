-- Stacks of two block sizes over the same given things: that of the larger blocks is never the longer one.
-- Assumes nothing.
use Prim.Native.Nat.{ℕ, ◌+◌, ◌≤◌}
use mathlib.Core.Path.{◌≡◌, sym, subst}
use mathlib.Core.Bool.{false≢true}
use mathlib.Core.List.{List, [], ◌∷◌}
use native.Mathlib.Omega.{arith}
use lib.ListN.{length}
use lib.Pow.{shr-shr}
use Rattle.lists.specs.Members.{remove}
use Rattle.lists.specs.Runs.{after}
use Rattle.lists.proofs.CoverLaws.{Covers, covers_step}
use Rattle.lists.proofs.RunLaws.{after_append}
use Rattle.cache.specs.Cache.{block_of, Given, ref, flush, events_at, events_of}
use Rattle.cache.specs.Stack.{stack_step}

-- larger blocks are made of smaller ones
pub block_wider : (b k a : ℕ) → block_of (b + k) a ≡ block_of k (block_of b a)
unfolding block_of
block_wider b k a = sym (shr-shr a b k)

-- what is given to both stacks, the one of blocks of 2^b bytes and the one of blocks 2^k times as large
module _ (b k : ℕ) where
  abbrev larger : ℕ → ℕ
  larger y = block_of k y

  covers_none : Covers larger [] []
  covers_none = ((λ y h. absurd (false≢true h)), omega arith)

  covers_given : (g : Given) (st st' : List ℕ) → Covers larger st st'
      → Covers larger (after stack_step st (events_at b g)) (after stack_step st' (events_at (b + k) g))
  covers_given (ref a) st st' c =
      subst (λ (y : ℕ). Covers larger (block_of b a ∷ remove (block_of b a) st) (y ∷ remove y st')) (sym (block_wider b k a))
      (covers_step larger (block_of b a) st st' c)
  covers_given flush st st' c = covers_none

  covers_all : (l : List Given) (st st' : List ℕ) → Covers larger st st'
      → Covers larger (after stack_step st (events_of b l)) (after stack_step st' (events_of (b + k) l))
  covers_all [] st st' c = c
  covers_all (g ∷ l) st st' c =
      rw (after_append stack_step st (events_at b g) (events_of b l), after_append stack_step st' (events_at (b + k) g) (events_of (b + k) l))
      (covers_all l (after stack_step st (events_at b g)) (after stack_step st' (events_at (b + k) g)) (covers_given g st st' c))

  -- THE LAW behind refusal 6: the stack of larger blocks is never the longer one
  pub no_longer : (l : List Given) → length (after stack_step [] (events_of (b + k) l)) ≤ length (after stack_step [] (events_of b l))
  no_longer l = (covers_all l [] [] covers_none).1
