-- Calls of `feed`, one for each slice, then one for the LF that a begun last line lacks, and then `ended`: each is handed what the one before
-- handed back, and the tables are untouched in between. A call is anything within its contract. Assumes nothing.
use Rattle.std.specs.Prelude.{ℕ, ◌≡◌, List, [], ◌∷◌}
use Rattle.reading.specs.Reading.{Outcome}
use Rattle.feeding.specs.declared.Feeding.{Feeding}
use Rattle.feeding.specs.Lines.{lf}
use Rattle.feeding.specs.Machine.{Held}
use Rattle.feeding.specs.Feeding.{held_by, Feeds, Ends}

-- they lead over the slices to d
pub data Calls : Feeding → List ℕ → List ℕ → List (List ℕ) → Held Outcome → Type 0 where
  ended : {f r : Feeding} {st ct : List ℕ} → f.len ≡ 0 → Ends f r → Calls f st ct [] (held_by r st ct)
  last : {f g r : Feeding} {st ct st' ct' : List ℕ} → (f.len ≡ 0 → ⊥) → Feeds f (lf ∷ []) st ct g st' ct' → Ends g r
      → Calls f st ct [] (held_by r st' ct')
  feed : {f r : Feeding} {bytes st ct st' ct' : List ℕ} {more : List (List ℕ)} {d : Held Outcome}
      → Feeds f bytes st ct r st' ct' → Calls r st' ct' more d → Calls f st ct (bytes ∷ more) d
