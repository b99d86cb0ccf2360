-- The trace of SCOPE, "The worked trace", at b = 4: its twelve numbers as one table, and what its mistakes would give. Assumes nothing.
use Prim.Native.Nat.{ℕ}
use mathlib.Core.Path.{◌≡◌, refl}
use mathlib.Core.List.{List, [], ◌∷◌, map}
use Rattle.cache.specs.Cache.{block_of, set_of, Given, ref, misses_over}

-- the addresses 0, 10, 20, 0, 14, 40, 0, 20 (hex)
abbrev pub addresses : List ℕ
addresses = 0x0 ∷ 0x10 ∷ 0x20 ∷ 0x0 ∷ 0x14 ∷ 0x40 ∷ 0x0 ∷ 0x20 ∷ []

abbrev pub trace : List Given
trace = map ref addresses

-- the misses at w = 1, 2, 3, 4
abbrev row : ℕ → ℕ → List ℕ
row b s = map (λ w. misses_over b s w trace) (1 ∷ 2 ∷ 3 ∷ 4 ∷ [])

-- THE TWELVE CASES: b = 4, s = 0, 1, 2
pub grid : map (row 4) (0 ∷ 1 ∷ 2 ∷ []) ≡ (8 ∷ 8 ∷ 5 ∷ 4 ∷ []) ∷ (7 ∷ 5 ∷ 4 ∷ 4 ∷ []) ∷ (5 ∷ 4 ∷ 4 ∷ 4 ∷ []) ∷ []
unfolding block_of set_of
grid = refl
