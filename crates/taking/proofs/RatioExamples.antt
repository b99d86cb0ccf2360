-- The ratios of SCOPE, "Questions": 5 misses in 8 references at b = 4 give 0.625 and 10.0. Here 0.625 is 5 * 2^-3 and 10.0 is 5 * 2^1.
-- Assumes nothing.
use Prim.Native.Nat.{ℕ}
use mathlib.Core.Path.{◌≡◌, refl}
use mathlib.Core.Bool.{false}
use mathlib.Core.List.{List, [], ◌∷◌}
use lib.IntN.{pos, negsuc}
use lib.ListN.{replicate}
use lib.Ieee.{fin, round}
use Rattle.lists.specs.Tests.{any_to, all_le}
use Rattle.taking.specs.Ratios.{ratios_at, no_ratios, ratios_of}
use Rattle.taking.specs.declared.Opened.{Opened}
use Rattle.taking.specs.declared.Ratios.{Ratios}

abbrev pub five_of_eight : Ratios
five_of_eight = record { miss = fin false 5 (negsuc 2); traffic = fin false 5 (pos 1) }

pub five_of_eight_lem : ratios_at 5 8 4 ≡ five_of_eight
unfolding round
five_of_eight_lem = refl

-- the worked input's order with n references taken
abbrev pub worked : ℕ → List ℕ → Opened
worked n used = record {
  order = record {
    bmin = record { 0 = 4 };
    bmax = record { 0 = 4 };
    smax = 1;
    ways = 2;
    room = 8;
    refs = 100;
  };
  taken = n;
  used = used;
}

-- after all 8 references, 3 of them hits in (4, 1, 2)
pub worked_ratios : ratios_of (worked 8 (4 ∷ replicate 7 0)) (0 ∷ 0 ∷ 1 ∷ 2 ∷ []) 4 1 2
    ≡ record { state = worked 8 (4 ∷ replicate 7 0); answer = 0; ratios = five_of_eight }
unfolding round any_to all_le
worked_ratios = refl

-- before the first
pub worked_before : ratios_of (worked 0 (replicate 8 0)) (replicate 4 0) 4 1 2
    ≡ record { state = worked 0 (replicate 8 0); answer = 9; ratios = no_ratios }
unfolding any_to all_le
worked_before = refl
