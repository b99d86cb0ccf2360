-- What given things are at one block size: their events one after the other, and how many touches they make. Assumes nothing.
use Prim.Native.Nat.{ℕ, ◌+◌}
use mathlib.Core.Path.{◌≡◌, refl, sym, ap, ap₂, ◌∙◌}
use mathlib.Core.List.{List, [], ◌∷◌, ◌++◌, append_assoc, append-nil, map}
use Rattle.lists.specs.Sums.{total}
use Rattle.lists.proofs.SumLaws.{total_append}
use Rattle.cache.specs.Cache.{block_of, Event, touch, empty, touched, Given, ref, flush, referred, events_at, events_of}

pub events_append : (b : ℕ) (l m : List Given) → events_of b (l ++ m) ≡ events_of b l ++ events_of b m
events_append b [] m = refl
events_append b (g ∷ l) m =
    ap (λ (es : List Event). events_at b g ++ es) (events_append b l m) ∙ sym (append_assoc (events_at b g) (events_of b l) (events_of b m))

pub events_one : (b : ℕ) (l : List Given) (g : Given) → events_of b (l ++ (g ∷ [])) ≡ events_of b l ++ events_at b g
events_one b l g = events_append b l (g ∷ []) ∙ ap (λ (es : List Event). events_of b l ++ es) (append-nil (events_at b g))

-- a given thing is as many touches at each block size as it counts for a reference
pub touches_one : (b : ℕ) (g : Given) → total touched (events_at b g) ≡ referred g
touches_one b (ref a) = refl
touches_one b flush = refl

pub touches_all : (b : ℕ) (l : List Given) → total touched (events_of b l) ≡ total referred l
touches_all b [] = refl
touches_all b (g ∷ l) = total_append touched (events_at b g) (events_of b l) ∙ ap₂ ◌+◌ (touches_one b g) (touches_all b l)

-- each is one event
abbrev pub event_of : ℕ → Given → Event
event_of b (ref a) = touch (block_of b a)
event_of b flush = empty

pub events_are : (b : ℕ) (l : List Given) → events_of b l ≡ map (event_of b) l
events_are b [] = refl
events_are b (ref a ∷ l) = ap (λ (es : List Event). touch (block_of b a) ∷ es) (events_are b l)
events_are b (flush ∷ l) = ap (λ (es : List Event). empty ∷ es) (events_are b l)
