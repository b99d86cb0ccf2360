-- Runs stripped one by one and joined again are the whole stripped: after a flush the direct-mapped cache is empty, as a strip's filter is at
-- its start. So demand 3 holds of the whole. Assumes nothing.
use Prim.Native.Nat.{ℕ, suc, ◌≤◌}
use mathlib.Core.Path.{◌≡◌, refl, sym, ap, ap₂, ◌∙◌}
use mathlib.Core.List.{List, [], ◌∷◌, ◌++◌, map}
use lib.ListN.{length, length-map}
use Rattle.lists.specs.Runs.{answers, after, without, Each}
use Rattle.lists.specs.Sums.{total}
use Rattle.lists.proofs.RunLaws.{answers_append, length_answers, without_append, without_map}
use Rattle.cache.specs.Cache.{Event, Answer, Given, ref, flush, events_of, touches_of, missed, is_hit, Sets, empty_sets}
use Rattle.cache.specs.Cache.{cache_step, cache_answer, simulate, misses_over}
use Rattle.cache.proofs.GivenLaws.{events_append, event_of, events_are}
use Rattle.cache.proofs.InclusionLaws.{HitToo}
use Rattle.cache.proofs.StripLaws.{strip_kept_lem, strip_dropped, strip_misses}
use Rattle.strip.specs.Joined.{after_flushes, joined_runs, kept_in, StripsTo}
use Rattle.strip.specs.Strip.{kept_of}
use Rattle.strip.proofs.StripClaims.{left_is_kept, events_kept}

-- ---- what is kept of the whole

module _ (b s : ℕ) where
  abbrev answers_from : Sets → List Event → List Answer
  answers_from c es = answers (cache_step s 1) (cache_answer s) c es

  -- a flush forgets: what comes after it is answered as from the start
  forgets : (c : Sets) (rs : List (List ℕ)) → answers_from c (events_of b (after_flushes rs)) ≡ simulate s 1 (events_of b (after_flushes rs))
  forgets c [] = refl
  forgets c (r ∷ rs) = refl

  -- one run, where the runs after it are told
  run_then : (r : List ℕ) (rs : List (List ℕ))
      → without is_hit (simulate s 1 (events_of b (after_flushes rs))) (after_flushes rs) ≡ after_flushes (map (kept_of b s) rs)
      → kept_in b s (joined_runs r rs) ≡ joined_runs (kept_of b s r) (map (kept_of b s) rs)
  run_then r rs rest =
      let es = touches_of b r in
      let later = events_of b (after_flushes rs) in
      ap (λ (x : List Event). without is_hit (simulate s 1 x) (joined_runs r rs)) (events_append b (map ref r) (after_flushes rs))
      ∙ ap (λ (x : List Answer). without is_hit x (joined_runs r rs))
      (answers_append (cache_step s 1) (cache_answer s) empty_sets es later
      ∙ ap (λ (x : List Answer). simulate s 1 es ++ x) (forgets (after (cache_step s 1) empty_sets es) rs))
      ∙ without_append is_hit (simulate s 1 es) (simulate s 1 later) (map ref r) (after_flushes rs)
      (length_answers (cache_step s 1) (cache_answer s) empty_sets es ∙ ap length (events_are b (map ref r)) ∙ length-map (map ref r) (event_of b))
      ∙ ap₂ ◌++◌ (sym (without_map is_hit ref (simulate s 1 es) r)) rest

  later_kept : (rs : List (List ℕ))
      → without is_hit (simulate s 1 (events_of b (after_flushes rs))) (after_flushes rs) ≡ after_flushes (map (kept_of b s) rs)
  later_kept [] = refl
  later_kept (r ∷ rs) = ap (λ (t : List Given). flush ∷ t) (run_then r rs (later_kept rs))

  -- THE LAW
  pub joined_kept : (r : List ℕ) (rs : List (List ℕ)) → joined_runs (kept_of b s r) (map (kept_of b s) rs) ≡ kept_in b s (joined_runs r rs)
  joined_kept r rs = sym (run_then r rs (later_kept rs))

  -- so what calls leave of each run, joined
  each_kept : (rs ks : List (List ℕ)) → Each (StripsTo b s) rs ks → ks ≡ map (kept_of b s) rs
  each_kept [] [] h = refl
  each_kept [] (k ∷ ks) h = absurd h
  each_kept (r ∷ rs) [] h = absurd h
  each_kept (r ∷ rs) (k ∷ ks) (c, h) = ap₂ ◌∷◌ (c.left ∙ left_is_kept c.call c.is_done) (each_kept rs ks h)

  pub calls_kept : (r k : List ℕ) (rs ks : List (List ℕ)) → StripsTo b s r k → Each (StripsTo b s) rs ks → joined_runs k ks ≡ kept_in b s (joined_runs r rs)
  calls_kept r k rs ks c h = ap₂ joined_runs (c.left ∙ left_is_kept c.call c.is_done) (each_kept rs ks h) ∙ joined_kept r rs

  -- ---- what it is good for

  module _ (s' w : ℕ) (more : s ≤ s') (l : List Given) where
    -- each kept reference hits or misses as it did in the whole
    pub whole_as_before : simulate s' (suc w) (events_of b (kept_in b s l))
        ≡ without is_hit (simulate s 1 (events_of b l)) (simulate s' (suc w) (events_of b l))
    whole_as_before = ap (simulate s' (suc w)) (events_kept b s l) ∙ strip_kept_lem s s' w more (events_of b l)

    -- each dropped one was a hit
    pub whole_dropped : Each HitToo (simulate s 1 (events_of b l)) (simulate s' (suc w) (events_of b l))
    whole_dropped = strip_dropped s s' w more (events_of b l)

    -- so the misses are as many
    pub whole_misses : misses_over b s' (suc w) (kept_in b s l) ≡ misses_over b s' (suc w) l
    whole_misses = ap (λ es. total missed (simulate s' (suc w) es)) (events_kept b s l) ∙ strip_misses s s' w more (events_of b l)

-- every list is such runs
pub joined_all : (l : List Given) → (r : List ℕ) × (rs : List (List ℕ)) × (l ≡ joined_runs r rs)
joined_all [] = ([], [], refl)
joined_all (ref a ∷ l) = let (r, rs, e) = joined_all l in (a ∷ r, rs, ap (λ (t : List Given). ref a ∷ t) e)
joined_all (flush ∷ l) = let (r, rs, e) = joined_all l in ([], r ∷ rs, ap (λ (t : List Given). flush ∷ t) e)
