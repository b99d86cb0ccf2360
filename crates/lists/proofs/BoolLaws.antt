-- Laws of "or" and "and": what they say where they fail, and both together. Assumes nothing.
use mathlib.Core.Path.{◌≡◌, refl}
use mathlib.Core.Bool.{Bool, true, false, ◌&&◌, ◌||◌, true≢false, false≢true}

pub or_none : (a b : Bool) → (a || b) ≡ false → (a ≡ false) × (b ≡ false)
or_none true b e = absurd (true≢false e)
or_none false b e = (refl, e)

pub or_both : (a b : Bool) → a ≡ false → b ≡ false → (a || b) ≡ false
or_both a b e f = simp (e, f)

pub and_false_of : (a b : Bool) → (a && b) ≡ false → a ≡ true → b ≡ false
and_false_of true b e h = e
and_false_of false b e h = absurd (false≢true h)

-- a or b, each together with t, where c is enough as well
pub or_shared : (c a b t : Bool) → (c || ((a || b) && t)) ≡ ((a && t || c) || (b && t))
or_shared true true b true = refl
or_shared true true b false = refl
or_shared true false b t = refl
or_shared false true true true = refl
or_shared false true true false = refl
or_shared false true false true = refl
or_shared false true false false = refl
or_shared false false b t = refl
