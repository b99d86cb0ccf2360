-- The lines of an input's bytes, cut as they come. Assumes nothing.
use Prim.Native.Nat.{ℕ, ◌≤◌, ◌<◌}
use mathlib.Core.Path.{◌≡◌, refl, sym, ap, ◌∙◌}
use mathlib.Core.Bool.{true, false, cond}
use mathlib.Core.List.{List, [], ◌∷◌, ◌++◌, append-nil}
use native.Mathlib.Omega.{arith}
use lib.Dec.{eqb}
use lib.ListN.{length, length-append}
use Rattle.lists.proofs.Cases.{cases}
use Rattle.feeding.specs.Lines.{lf, beginning, lines_of}

-- a line that has begun with l, before the lines of the rest: an empty one has not begun
abbrev pub before : List ℕ → List (List ℕ) → List (List ℕ)
before [] lines = lines
before (b ∷ l) lines = beginning b (before l lines)

abbrev alone : List ℕ → List (List ℕ)
alone [] = []
alone (b ∷ l) = (b ∷ l) ∷ []

-- the lines of the bytes that come after the line that has begun with l
unfoldable pub lines_from : List ℕ → List ℕ → List (List ℕ)
lines_from l [] = alone l
lines_from l (b ∷ more) = cond (eqb b lf) (l ∷ lines_from [] more) (lines_from (l ++ (b ∷ [])) more)

before_line : (l x : List ℕ) (more : List (List ℕ)) → before l (x ∷ more) ≡ (l ++ x) ∷ more
before_line [] x more = refl
before_line (b ∷ l) x more = ap (beginning b) (before_line l x more)

before_none : (l : List ℕ) → before l [] ≡ alone l
before_none [] = refl
before_none (b ∷ []) = refl
before_none (b ∷ c ∷ l) = ap (beginning b) (before_none (c ∷ l))

before_one : (l : List ℕ) (b : ℕ) (lines : List (List ℕ)) → before (l ++ (b ∷ [])) lines ≡ before l (beginning b lines)
before_one [] b lines = refl
before_one (c ∷ l) b lines = ap (beginning c) (before_one l b lines)

-- an LF after l that has begun, wherever it stands
cut_from : (l bytes : List ℕ) → lines_from l bytes ≡ before l (lines_of bytes)
unfolding lines_from lines_of
cut_from l [] = sym (before_none l)
cut_from l (b ∷ more) =
    let fresh = cut_from [] more in
    let on = cut_from (l ++ (b ∷ [])) more in
    cases (eqb b lf)
    (λ e. simp e (ap (l ∷◌) fresh ∙ ap (λ (x : List ℕ). x ∷ lines_of more) (sym (append-nil l)) ∙ sym (before_line l [] (lines_of more))))
    (λ e. simp e (on ∙ before_one l b (lines_of more)))

pub lines_from_lem : (bytes : List ℕ) → lines_from [] bytes ≡ lines_of bytes
lines_from_lem bytes = cut_from [] bytes

-- a line that has begun is the first, and has at least those bytes
pub record First (l : List ℕ) (lines : List (List ℕ)) : Type 0 where
  pub line : List ℕ
  pub more : List (List ℕ)
  pub split : lines ≡ line ∷ more
  pub long : length l ≤ length line

first_alone : (l : List ℕ) → 0 < length l → First l (alone l)
first_alone [] h = absurd (omega arith)
first_alone (b ∷ l) h = record { line = b ∷ l; more = []; split = refl; long = omega arith }

first_begun : (l bytes : List ℕ) → 0 < length l → First l (lines_from l bytes)
unfolding lines_from
first_begun l [] h = first_alone l h
first_begun l (b ∷ bytes) h =
    let longer = length-append l (b ∷ []) in
    let on = first_begun (l ++ (b ∷ [])) bytes (omega arith) in
    cases (eqb b lf)
    (λ e. simp e (record { line = l; more = lines_from [] bytes; split = refl; long = omega arith }))
    (λ e. simp e (record { line = on.line; more = on.more; split = on.split; long = omega (arith, on.long) }))

-- so is one whose next byte has come
pub first_line : (l : List ℕ) (b : ℕ) (bytes : List ℕ) → First l (lines_from l (b ∷ bytes))
unfolding lines_from
first_line l b bytes =
    let longer = length-append l (b ∷ []) in
    let on = first_begun (l ++ (b ∷ [])) bytes (omega arith) in
    cases (eqb b lf)
    (λ e. simp e (record { line = l; more = lines_from [] bytes; split = refl; long = omega arith }))
    (λ e. simp e (record { line = on.line; more = on.more; split = on.split; long = omega (arith, on.long) }))

-- and where the byte is no LF, it is one byte longer
pub first_longer : (l : List ℕ) (b : ℕ) (bytes : List ℕ) → eqb b lf ≡ false → First (l ++ (b ∷ [])) (lines_from l (b ∷ bytes))
unfolding lines_from
first_longer l b bytes e = simp e (first_begun (l ++ (b ∷ [])) bytes (omega (arith, length-append l (b ∷ []))))

-- a line that has begun, at the end of the bytes
pub lines_alone : (l : List ℕ) → 0 < length l → lines_from l [] ≡ l ∷ []
unfolding lines_from
lines_alone [] h = absurd (omega arith)
lines_alone (b ∷ l) h = refl

-- one byte more
pub lines_lf : (l : List ℕ) (b : ℕ) (bytes : List ℕ) → eqb b lf ≡ true → lines_from l (b ∷ bytes) ≡ l ∷ lines_from [] bytes
unfolding lines_from
lines_lf l b bytes e = simp e

pub lines_byte : (l : List ℕ) (b : ℕ) (bytes : List ℕ) → eqb b lf ≡ false → lines_from l (b ∷ bytes) ≡ lines_from (l ++ (b ∷ [])) bytes
unfolding lines_from
lines_byte l b bytes e = simp e

pub lines_none : lines_from [] [] ≡ []
unfolding lines_from
lines_none = refl
