-- Both ways of a test, each with the equation that says which. Assumes nothing.
use mathlib.Core.Path.{◌≡◌, refl}
use mathlib.Core.Bool.{Bool, true, false, cond}

pub cases {ℓ} : {G : Type ℓ} (b : Bool) → (b ≡ true → G) → (b ≡ false → G) → G
cases true f g = f refl
cases false f g = g refl

-- of what the test picks
pub picked : {A : Type 0} (P : A → Type 0) (b : Bool) {x y : A} → (b ≡ true → P x) → (b ≡ false → P y) → P (cond b x y)
picked P true f g = f refl
picked P false f g = g refl

-- of two things that the same test picks
pub both_picked : {A B : Type 0} (P : A → B → Type 0) (b : Bool) {x y : A} {z w : B} → (b ≡ true → P x z) → (b ≡ false → P y w)
    → P (cond b x y) (cond b z w)
both_picked P true f g = f refl
both_picked P false f g = g refl
