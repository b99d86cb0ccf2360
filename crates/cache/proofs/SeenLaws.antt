-- What the stack holds: each block that was touched since the cache was last emptied, once. Assumes nothing.
use Prim.Native.Nat.{ℕ}
use mathlib.Core.Path.{◌≡◌, sym, ap, ◌∙◌}
use mathlib.Core.Bool.{Bool, ◌&&◌, ◌||◌, or-false, and-true, and-false}
use mathlib.Core.List.{List, [], ◌∷◌}
use lib.Dec.{eqb}
use Rattle.lists.specs.Members.{mem, remove, Distinct}
use Rattle.lists.specs.Runs.{after}
use Rattle.lists.proofs.BoolLaws.{or_shared}
use Rattle.lists.proofs.DistinctLaws.{distinct_front}
use Rattle.lists.proofs.MemberLaws.{mem_front}
use Rattle.cache.specs.Cache.{Event, touch, empty}
use Rattle.cache.specs.Stack.{stack_step, never_emptied, is_seen}

module _ (x : ℕ) where
  seen_or_there : (st : List ℕ) (es : List Event) → mem x (after stack_step st es) ≡ is_seen x es || (mem x st && never_emptied es)
  seen_or_there st [] = sym (and-true (mem x st))
  seen_or_there st (touch y ∷ es) =
      seen_or_there (y ∷ remove y st) es
      ∙ ap (λ (t : Bool). is_seen x es || (t && never_emptied es)) (mem_front y x st)
      ∙ or_shared (is_seen x es) (eqb x y) (mem x st) (never_emptied es)
  seen_or_there st (empty ∷ es) = seen_or_there [] es ∙ ap (λ (t : Bool). is_seen x es || t) (sym (and-false (mem x st)))

  -- a block is in the stack exactly if it was touched, and the cache not emptied since
  pub seen_is : (es : List Event) → mem x (after stack_step [] es) ≡ is_seen x es
  seen_is es = seen_or_there [] es ∙ or-false (is_seen x es)

distinct_after : (st : List ℕ) (es : List Event) → Distinct st → Distinct (after stack_step st es)
distinct_after st [] d = d
distinct_after st (touch y ∷ es) d = distinct_after (y ∷ remove y st) es (distinct_front y st d)
distinct_after st (empty ∷ es) d = distinct_after [] es tt

-- and no block stands in it twice
pub no_repeats : (es : List Event) → Distinct (after stack_step [] es)
no_repeats es = distinct_after [] es tt
