-- What the hits of a direct-mapped cache can be dropped for: demand 3, second and third parts.
-- The idea: where (s, 1) hits, the block is already the most recent of its set in every cache with at least as many sets,
-- so dropping the reference changes nothing there. Assumes nothing.
use Prim.Native.Nat.{ℕ, suc, ◌+◌, ◌≤◌}
use mathlib.Core.Path.{◌≡◌, refl, sym, ap, ◌∙◌, fun_ext}
use mathlib.Core.Bool.{true, false≢true}
use mathlib.Core.List.{List, [], ◌∷◌}
use native.Mathlib.Omega.{arith}
use lib.Dec.{eqb}
use lib.ListN.{take}
use borrow.Author.Tests.{eqb-true, eq-eqb}
use Rattle.lists.specs.Members.{mem, keep}
use Rattle.lists.specs.Runs.{Each, without}
use Rattle.lists.specs.Sums.{total}
use Rattle.lists.proofs.Cases.{cases, picked}
use Rattle.lists.proofs.MemberLaws.{first_keep}
use Rattle.lists.proofs.RunLaws.{kept}
use Rattle.cache.specs.Cache.{set_of, Event, touch, empty, Answer, hit, miss, none, missed, is_hit, Sets, empty_sets, cache_step, cache_answer, simulate}
use Rattle.cache.specs.Cache.{refer}
use Rattle.cache.proofs.SetLaws.{set_fewer}
use Rattle.cache.proofs.InclusionLaws.{HitToo, Both, both_empty, both_step, inclusion}

-- a hit at the front of its set leaves the set as it is
front_stays : (w x : ℕ) (r : List ℕ) → refer w x (x ∷ r) ≡ x ∷ r
front_stays w x r = simp (eq-eqb x x refl)

-- the sets of every cache with at least as many sets stay as they are where the direct-mapped cache hits
pub unchanged : (s s' w : ℕ) → s ≤ s' → (c₁ c : Sets) (e : Event) → Both s 1 s' (suc w) c₁ c
    → is_hit (cache_answer s c₁ e) ≡ true → cache_step s' (suc w) c e ≡ c
unchanged s s' w more c₁ c (touch x) (st, h, h') hits = fun_ext same
  where
    held : mem x (take 1 (keep (λ y. eqb (set_of s x) (set_of s y)) st)) ≡ true
    held = cases (mem x (c₁ (set_of s x))) (λ e. ap (mem x) (sym (h (set_of s x))) ∙ e) (λ e. absurd (false≢true (simp e at hits)))

    first : (i : ℕ) → i ≡ set_of s' x → (r : List ℕ) × (keep (λ y. eqb i (set_of s' y)) st ≡ x ∷ r)
    first i q =
        first_keep (λ y. eqb (set_of s x) (set_of s y)) (λ y. eqb i (set_of s' y)) x
        (λ y e. eq-eqb (set_of s x) (set_of s y) (set_fewer s s' more x y (sym q ∙ eqb-true i (set_of s' y) e)))
        (eq-eqb i (set_of s' x) q) st held

    own : (i : ℕ) → i ≡ set_of s' x → refer (suc w) x (c i) ≡ c i
    own i q =
        let f = first i q in
        let e : c i ≡ x ∷ take w f.0 = h' i ∙ ap (take (suc w)) f.1 in
        ap (refer (suc w) x) e ∙ front_stays (suc w) x (take w f.0) ∙ sym e

    same : (i : ℕ) → cache_step s' (suc w) c (touch x) i ≡ c i
    same i = cases (eqb i (set_of s' x)) (λ e. simp e (own i (eqb-true i (set_of s' x) e))) (λ e. simp e)
unchanged s s' w more c₁ c empty b hits = absurd (false≢true hits)

hit_is_no_miss : (a : Answer) → is_hit a ≡ true → missed a ≡ 0
hit_is_no_miss hit e = refl
hit_is_no_miss miss e = absurd (false≢true e)
hit_is_no_miss none e = absurd (false≢true e)

misses_without : (r q : List Answer) → Each HitToo r q → total missed (without is_hit r q) ≡ total missed q
misses_without [] [] h = refl
misses_without [] (b ∷ q) h = absurd h
misses_without (a ∷ r) [] h = absurd h
misses_without (a ∷ r) (b ∷ q) h =
    picked (λ (l : List Answer). total missed l ≡ missed b + total missed q) (is_hit a)
    (λ e. omega (arith, hit_is_no_miss b (h.0 e), misses_without r q h.1))
    (λ e. ap (λ (n : ℕ). missed b + n) (misses_without r q h.1))

module _ (s s' w : ℕ) (more : s ≤ s') (es : List Event) where
  -- each kept event is answered as it was in the full list
  pub strip_kept_lem : simulate s' (suc w) (without is_hit (simulate s 1 es) es) ≡ without is_hit (simulate s 1 es) (simulate s' (suc w) es)
  strip_kept_lem =
      kept (cache_step s 1) (cache_step s' (suc w)) (cache_answer s) (cache_answer s') (Both s 1 s' (suc w)) (both_step s 1 s' (suc w)) is_hit
      (unchanged s s' w more) empty_sets empty_sets es (both_empty s 1 s' (suc w))

  -- each dropped one was a hit
  pub strip_dropped : Each HitToo (simulate s 1 es) (simulate s' (suc w) es)
  strip_dropped = inclusion s 1 s' (suc w) more (omega arith) es

  -- so the misses are as many
  pub strip_misses : total missed (simulate s' (suc w) (without is_hit (simulate s 1 es) es)) ≡ total missed (simulate s' (suc w) es)
  strip_misses = ap (total missed) strip_kept_lem ∙ misses_without (simulate s 1 es) (simulate s' (suc w) es) strip_dropped
