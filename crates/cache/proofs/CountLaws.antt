-- Misses are the touches less the counts at depths 0 to w - 1: what demand 2 rests on, at one block size.
-- Assumes nothing.
use Prim.Native.Nat.{ℕ, zero, suc, ◌+◌, ◌-◌, ◌≤◌, ◌<◌}
use mathlib.Core.Path.{◌≡◌, refl, sym, ap, ◌∙◌}
use mathlib.Core.Bool.{true, cond, true≢false}
use mathlib.Core.List.{List, [], ◌∷◌}
use native.Mathlib.Omega.{arith}
use lib.Dec.{eqb, ltb}
use borrow.Author.Tests.{eqb-true, eqb-false, ltb-true, ltb-false, lt-ltb, le-ltb}
use Rattle.lists.specs.Members.{mem}
use Rattle.lists.specs.Runs.{answers, after}
use Rattle.lists.specs.Sums.{total, sum_to}
use Rattle.lists.proofs.Cases.{cases}
use Rattle.lists.proofs.SumLaws.{total_ext, total_add, total_zero, total_map, total_answers}
use Rattle.cache.specs.Cache.{set_of, Event, touch, empty, Answer, hit, miss, none, missed, touched, Sets, simulate, cache_step, cache_answer, empty_sets}
use Rattle.cache.specs.Stack.{stack_step, stack_place, depth, Place, at, new, nowhere, places, verdict, at_depth}
use Rattle.cache.proofs.StackLaws.{one_stack}

-- hits, beside the page's misses
abbrev hits : Answer → ℕ
hits hit = 1
hits miss = 0
hits none = 0

hits_suc : (w : ℕ) (p : Place) → hits (verdict (suc w) p) ≡ hits (verdict w p) + at_depth w p
hits_suc w new = refl
hits_suc w nowhere = refl
hits_suc w (at d) =
    cases (eqb w d)
    (λ e. let h = eqb-true w d e in simp (e, lt-ltb d (suc w) (omega arith), le-ltb d w (omega arith)))
    (λ e. cases (ltb d w)
    (λ f. let h = ltb-true d w f in simp (e, f, lt-ltb d (suc w) (omega arith)))
    (λ f. let h = ltb-false d w f in let g : w ≡ d → ⊥ = eqb-false w d e in simp (e, f, le-ltb d (suc w) (omega (arith, g)))))

hits_zero : (p : Place) → hits (verdict 0 p) ≡ 0
hits_zero new = refl
hits_zero nowhere = refl
hits_zero (at d) = simp (le-ltb d 0 (omega arith))

hits_by_depth : (w : ℕ) (ps : List Place) → total (λ p. hits (verdict w p)) ps ≡ sum_to (λ d. total (at_depth d) ps) w
hits_by_depth zero ps = total_zero (λ p. hits (verdict 0 p)) hits_zero ps
hits_by_depth (suc w) ps =
    total_ext (λ p. hits (verdict (suc w) p)) (λ p. hits (verdict w p) + at_depth w p) (hits_suc w) ps
    ∙ total_add (λ p. hits (verdict w p)) (at_depth w) ps
    ∙ ap (λ (n : ℕ). n + total (at_depth w) ps) (hits_by_depth w ps)

hit_or_miss : (s : ℕ) (c : Sets) (e : Event) → missed (cache_answer s c e) + hits (cache_answer s c e) ≡ touched e
hit_or_miss s c (touch x) = cases (mem x (c (set_of s x))) (λ e. simp e) (λ e. simp e)
hit_or_miss s c empty = refl

module _ (s w : ℕ) (es : List Event) where
  hits_are : total hits (simulate s w es) ≡ sum_to (λ d. total (at_depth d) (places s es)) w
  hits_are = ap (total hits) (one_stack s w es) ∙ total_map hits (verdict w) (places s es) ∙ hits_by_depth w (places s es)

  both_are : total missed (simulate s w es) + total hits (simulate s w es) ≡ total touched es
  both_are =
      sym (total_add missed hits (simulate s w es))
      ∙ total_answers (cache_step s w) (cache_answer s) (λ a. missed a + hits a) touched (hit_or_miss s) empty_sets es

  -- the misses of a cache, from the counts of one stack
  pub misses_by_depth : total missed (simulate s w es) ≡ total touched es - sum_to (λ d. total (at_depth d) (places s es)) w
  misses_by_depth = let h = hits_are in let b = both_are in omega arith

  -- the counts never exceed the touches
  pub hits_fit : sum_to (λ d. total (at_depth d) (places s es)) w ≤ total touched es
  hits_fit = let h = hits_are in let b = both_are in omega arith

-- what one touch adds to a count
pub place_count : (d s : ℕ) (st : List ℕ) (x : ℕ) → at_depth d (stack_place s st (touch x)) ≡ cond (mem x st) (cond (eqb d (depth s x st)) 1 0) 0
place_count d s st x = cases (mem x st) (λ e. simp e) (λ e. simp e)

-- ---- a count stays below the touches once there is a stack: the first touch was new

at_most_one : (d s : ℕ) (st : List ℕ) (e : Event) → at_depth d (stack_place s st e) ≤ touched e
at_most_one d s st (touch x) =
    rw (place_count d s st x)
    (cases (mem x st)
    (λ f. simp f (cases (eqb d (depth s x st)) (λ e. simp e (omega arith)) (λ e. simp e (omega arith))))
    (λ f. simp f (omega arith)))
at_most_one d s st empty = omega arith

few : (d s : ℕ) (st : List ℕ) (es : List Event) → total (at_depth d) (answers stack_step (stack_place s) st es) ≤ total touched es
few d s st [] = omega arith
few d s st (e ∷ es) = omega (arith, at_most_one d s st e, few d s (stack_step st e) es)

pub fewer : (d s x : ℕ) (es : List Event) → mem x (after stack_step [] es) ≡ true → total (at_depth d) (places s es) < total touched es
fewer d s x [] m = absurd (true≢false (sym m))
fewer d s x (touch y ∷ es) m = omega (arith, few d s (y ∷ []) es)
fewer d s x (empty ∷ es) m = omega (arith, fewer d s x es m)
