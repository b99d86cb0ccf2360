-- Strip of the worked trace (SCOPE, "The worked trace"), and what the mistakes of SCOPE, "Mistakes shut out", would give: each is a computation.
-- Assumes nothing.
use Prim.Native.Nat.{ℕ}
use mathlib.Core.Path.{◌≡◌, refl}
use mathlib.Core.List.{List, [], ◌∷◌, map}
use Rattle.lists.specs.Sums.{total}
use Rattle.lists.specs.Tables.{values_to}
use Rattle.cache.specs.Cache.{block_of, set_of, Event, touch, hit, miss, missed, simulate, ref, misses_over}
use Rattle.cache.proofs.Worked.{addresses}
use Rattle.strip.specs.Strip.{kept_of, entry_of}

-- ---- the worked trace

pub worked_kept : kept_of 4 2 addresses ≡ 0x0 ∷ 0x10 ∷ 0x20 ∷ 0x40 ∷ 0x0 ∷ []
unfolding block_of set_of
worked_kept = refl

-- the last blocks of its sets are 0, 1, 2 and none
pub worked_filter : values_to 4 (entry_of 4 2 addresses) ≡ 1 ∷ 2 ∷ 3 ∷ 0 ∷ []
unfolding block_of set_of
worked_filter = refl

-- at s = 0 all 8 are kept
pub worked_one_set : kept_of 4 0 addresses ≡ addresses
unfolding block_of set_of
worked_one_set = refl

pub empty_keeps_none : (b s : ℕ) → kept_of b s [] ≡ []
empty_keeps_none b s = refl

-- ---- mistakes: in each pair the first is what the stripped list gives, the second what the full list does

-- stripped at s = 1 and used for fewer sets, s = 0
pub fewer_sets : map (λ l. misses_over 4 0 1 (map ref l)) (kept_of 4 1 (0x0 ∷ 0x10 ∷ 0x0 ∷ []) ∷ (0x0 ∷ 0x10 ∷ 0x0 ∷ []) ∷ []) ≡ 2 ∷ 3 ∷ []
unfolding block_of set_of
fewer_sets = refl

-- stripped at b = 5 and used for smaller blocks, b = 4
pub smaller_blocks : map (λ l. misses_over 4 1 1 (map ref l)) (kept_of 5 1 (0x0 ∷ 0x10 ∷ 0x0 ∷ []) ∷ (0x0 ∷ 0x10 ∷ 0x0 ∷ []) ∷ []) ≡ 1 ∷ 2 ∷ []
unfolding block_of set_of
smaller_blocks = refl

-- stripped at b = 4 and used for larger blocks, b = 5
pub larger_blocks : map (λ l. misses_over 5 1 1 (map ref l)) (kept_of 4 1 (0x0 ∷ 0x50 ∷ 0x0 ∷ []) ∷ (0x0 ∷ 0x50 ∷ 0x0 ∷ []) ∷ []) ≡ 2 ∷ 3 ∷ []
unfolding block_of set_of
larger_blocks = refl

-- ---- a filter of two ways: its hits cannot be dropped

abbrev blocks : List ℕ → List Event
blocks l = map (λ x. touch x) l

pub middle_hits : simulate 0 2 (blocks (0 ∷ 1 ∷ 0 ∷ 2 ∷ 0 ∷ [])) ≡ miss ∷ miss ∷ hit ∷ miss ∷ hit ∷ []
unfolding set_of
middle_hits = refl

-- 3 misses; 4 without the middle hit
pub middle_dropped : map (λ l. total missed (simulate 0 2 (blocks l))) ((0 ∷ 1 ∷ 0 ∷ 2 ∷ 0 ∷ []) ∷ (0 ∷ 1 ∷ 2 ∷ 0 ∷ []) ∷ []) ≡ 3 ∷ 4 ∷ []
unfolding set_of
middle_dropped = refl
