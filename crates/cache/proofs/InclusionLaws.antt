-- What hits in a cache hits in every cache with at least as many sets and ways: demand 3, first part.
-- Assumes nothing.
use Prim.Native.Nat.{ℕ, ◌≤◌}
use mathlib.Core.Path.{◌≡◌}
use mathlib.Core.Bool.{true, false≢true}
use mathlib.Core.List.{List, []}
use native.Mathlib.Omega.{arith}
use lib.Dec.{eqb, ltb}
use borrow.Author.Tests.{eqb-true, eq-eqb, ltb-true, lt-ltb}
use Rattle.lists.specs.Members.{mem, above}
use Rattle.lists.specs.Runs.{Each}
use Rattle.lists.proofs.Cases.{cases}
use Rattle.lists.proofs.MemberLaws.{length_keep_le}
use Rattle.lists.proofs.RunLaws.{each_answer}
use Rattle.cache.specs.Cache.{set_of, Event, touch, empty, Answer, Sets, empty_sets, cache_step, cache_answer, simulate, is_hit}
use Rattle.cache.specs.Stack.{stack_step, stack_place, depth, verdict}
use Rattle.cache.proofs.SetLaws.{set_fewer}
use Rattle.cache.proofs.StackLaws.{Holds, holds_empty, holds_step, holds_answer}

-- the second hits where the first does
abbrev pub HitToo : Answer → Answer → Type 0
HitToo a a' = is_hit a ≡ true → is_hit a' ≡ true

-- two caches at one time: one stack tells both
abbrev pub Both : ℕ → ℕ → ℕ → ℕ → Sets → Sets → Type 0
Both s w s' w' c c' = (st : List ℕ) × Holds s w c st × Holds s' w' c' st

pub both_empty : (s w s' w' : ℕ) → Both s w s' w' empty_sets empty_sets
both_empty s w s' w' = ([], holds_empty s w, holds_empty s' w')

pub both_step : (s w s' w' : ℕ) (c c' : Sets) (e : Event) → Both s w s' w' c c' → Both s w s' w' (cache_step s w c e) (cache_step s' w' c' e)
both_step s w s' w' c c' e (st, h, h') = (stack_step st e, holds_step s w c st e h, holds_step s' w' c' st e h')

-- at more sets a block is no deeper
pub depth_falls : (s s' : ℕ) → s ≤ s' → (x : ℕ) (st : List ℕ) → depth s' x st ≤ depth s x st
depth_falls s s' sets x st =
    length_keep_le (λ y. eqb (set_of s' x) (set_of s' y)) (λ y. eqb (set_of s x) (set_of s y))
    (λ y e. eq-eqb (set_of s x) (set_of s y) (set_fewer s s' sets x y (eqb-true (set_of s' x) (set_of s' y) e))) (above x st)

module _ (s w s' w' : ℕ) (sets : s ≤ s') (ways : w ≤ w') where
  place_hits : (st : List ℕ) (e : Event) → HitToo (verdict w (stack_place s st e)) (verdict w' (stack_place s' st e))
  place_hits st (touch x) =
      cases (mem x st)
      (λ e. simp e (λ h. cases (ltb (depth s x st) w)
      (λ f. let g = ltb-true (depth s x st) w f in let l = depth_falls s s' sets x st in simp (lt-ltb (depth s' x st) w' (omega arith)))
      (λ f. absurd (false≢true (simp f at h)))))
      (λ e. simp e (λ h. absurd (false≢true h)))
  place_hits st empty = λ h. absurd (false≢true h)

  pub both_hit : (c c' : Sets) (e : Event) → Both s w s' w' c c' → HitToo (cache_answer s c e) (cache_answer s' c' e)
  both_hit c c' e (st, h, h') = rw (holds_answer s w c st e h, holds_answer s' w' c' st e h') (place_hits st e)

  pub inclusion : (es : List Event) → Each HitToo (simulate s w es) (simulate s' w' es)
  inclusion es =
      each_answer (cache_step s w) (cache_step s' w') (cache_answer s) (cache_answer s') (Both s w s' w') (both_step s w s' w') HitToo both_hit
      empty_sets empty_sets es (both_empty s w s' w')
