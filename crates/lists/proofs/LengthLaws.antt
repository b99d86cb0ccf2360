-- Lists of a known length, told by their elements. Assumes nothing.
use mathlib.Core.Path.{◌≡◌}
use mathlib.Core.List.{List, [], ◌∷◌}
use native.Mathlib.Omega.{arith}
use lib.ListN.{length}

pub six_cases : {A : Type 0} (P : List A → Type 0) → ((a b c d e f : A) → P (a ∷ b ∷ c ∷ d ∷ e ∷ f ∷ [])) → (l : List A) → length l ≡ 6 → P l
six_cases P p [] h = absurd (omega arith)
six_cases P p (a ∷ []) h = absurd (omega arith)
six_cases P p (a ∷ b ∷ []) h = absurd (omega arith)
six_cases P p (a ∷ b ∷ c ∷ []) h = absurd (omega arith)
six_cases P p (a ∷ b ∷ c ∷ d ∷ []) h = absurd (omega arith)
six_cases P p (a ∷ b ∷ c ∷ d ∷ e ∷ []) h = absurd (omega arith)
six_cases P p (a ∷ b ∷ c ∷ d ∷ e ∷ f ∷ []) h = p a b c d e f
six_cases P p (a ∷ b ∷ c ∷ d ∷ e ∷ f ∷ g ∷ l) h = absurd (omega arith)
