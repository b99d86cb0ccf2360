-- One stack serves every cache: each set of a cache holds the first w blocks of the stack that are of that set,
-- so the depth tells hit from miss. All of demands 2 and 3 rests on `holds_step` and `holds_answer`. Assumes nothing.
use Prim.Native.Nat.{ℕ, zero, suc}
use mathlib.Core.Path.{◌≡◌, refl, sym, ap, ◌∙◌}
use mathlib.Core.Bool.{Bool, true, false, cond, ◌&&◌}
use mathlib.Core.List.{List, [], ◌∷◌, map}
use lib.Dec.{eqb, ltb}
use lib.ListN.{take}
use lib.Seq.{take-nil}
use borrow.Author.Tests.{eq-eqb}
use Rattle.lists.specs.Members.{mem, remove, keep}
use Rattle.lists.specs.Runs.{after}
use Rattle.lists.proofs.Cases.{picked, both_picked}
use Rattle.lists.proofs.MemberLaws.{keep_remove, keep_remove_other, mem_take_keep, remove_take, take_remove}
use Rattle.lists.proofs.RunLaws.{simulates, after_rel}
use Rattle.cache.specs.Cache.{set_of, Event, touch, empty, hit, miss, Sets, empty_sets, refer, cache_step, cache_answer, simulate}
use Rattle.cache.specs.Stack.{stack_step, depth, stack_place, at, new, places, verdict}

-- a reference to x in a set that holds the first w of a list leaves the first w, after x has gone to the front of the list
pub refer_take : (w x : ℕ) (l : List ℕ) → refer w x (take w l) ≡ take w (x ∷ remove x l)
refer_take zero x l = refl
refer_take (suc w) x l =
    picked (λ (k : List ℕ). k ≡ take (suc w) (x ∷ remove x l)) (mem x (take (suc w) l))
    (λ e. ap (λ (k : List ℕ). x ∷ k) (remove_take x w l e))
    (λ e. ap (λ (k : List ℕ). x ∷ k) (take_remove x w l e))

-- the verdict on a block, by whether it is in the stack: m, and its depth there
verdict_by : (w : ℕ) (m : Bool) (d : ℕ) → cond (m && ltb d w) hit miss ≡ verdict w (cond m (at d) new)
verdict_by w true d = refl
verdict_by w false d = refl

module _ (s w : ℕ) where
  -- each set holds the first w blocks of the stack that are of that set
  abbrev pub Holds : Sets → List ℕ → Type 0
  Holds c st = (i : ℕ) → c i ≡ take w (keep (λ y. eqb i (set_of s y)) st)

  pub holds_empty : Holds empty_sets []
  holds_empty i = sym (take-nil w)

  pub holds_step : (c : Sets) (st : List ℕ) (e : Event) → Holds c st → Holds (cache_step s w c e) (stack_step st e)
  holds_step c st (touch x) h i =
      both_picked (λ (k l : List ℕ). k ≡ take w l) (eqb i (set_of s x))
      (λ e.
      ap (refer w x) (h i) ∙ refer_take w x (keep (λ y. eqb i (set_of s y)) st)
      ∙ ap (λ (l : List ℕ). take w (x ∷ l)) (sym (keep_remove (λ y. eqb i (set_of s y)) x e st)))
      (λ e. h i ∙ ap (take w) (sym (keep_remove_other (λ y. eqb i (set_of s y)) x e st)))
  holds_step c st empty h i = holds_empty i

  pub holds_answer : (c : Sets) (st : List ℕ) (e : Event) → Holds c st → cache_answer s c e ≡ verdict w (stack_place s st e)
  holds_answer c st (touch x) h =
      ap (λ (l : List ℕ). cond (mem x l) hit miss) (h (set_of s x))
      ∙ ap (λ (t : Bool). cond t hit miss)
      (mem_take_keep (λ y. eqb (set_of s x) (set_of s y)) x (eq-eqb (set_of s x) (set_of s x) refl) w st)
      ∙ verdict_by w (mem x st) (depth s x st)
  holds_answer c st empty h = refl

  -- a reference hits exactly where its block is in the stack and its depth is below w: over every list of events
  pub one_stack : (es : List Event) → simulate s w es ≡ map (verdict w) (places s es)
  one_stack es =
      simulates (cache_step s w) stack_step (cache_answer s) (stack_place s) Holds holds_step (verdict w) holds_answer empty_sets [] es holds_empty

  -- what a cache holds at any time
  pub contents : (es : List Event) → Holds (after (cache_step s w) empty_sets es) (after stack_step [] es)
  contents es = after_rel (cache_step s w) stack_step Holds holds_step empty_sets [] es holds_empty
