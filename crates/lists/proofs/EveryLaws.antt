-- Laws of a property that every thing of a list has.
-- Assumes nothing.
use mathlib.Core.List.{List, [], ◌∷◌, ◌++◌}
use Rattle.lists.specs.Every.{All}

module _ {A : Type 0} (P : A → Type 0) where
  pub all_append : (a b : List A) → All P a → All P b → All P (a ++ b)
  all_append [] b h g = g
  all_append (x ∷ a) b h g = (h.0, all_append a b h.1 g)

  pub all_of : ((x : A) → P x) → (l : List A) → All P l
  all_of h [] = tt
  all_of h (x ∷ l) = (h x, all_of h l)

pub all_map : {A : Type 0} (P Q : A → Type 0) → ((x : A) → P x → Q x) → (l : List A) → All P l → All Q l
all_map P Q f [] h = tt
all_map P Q f (x ∷ l) h = (f x h.0, all_map P Q f l h.1)
