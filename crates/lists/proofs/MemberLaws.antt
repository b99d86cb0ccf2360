-- Laws of `mem`, `remove`, `above` and `keep`, and of `take` beside them: a number that goes to the front, those that pass a test, and a walk
-- down a list.
-- Assumes nothing.
use Prim.Native.Nat.{ℕ, zero, suc, ◌≤◌, ◌<◌}
use mathlib.Core.Path.{◌≡◌, refl, sym, ap, ◌∙◌}
use mathlib.Core.Bool.{Bool, true, false, cond, ◌&&◌, ◌||◌, and-false, true≢false, false≢true}
use mathlib.Core.List.{List, [], ◌∷◌, ◌++◌}
use native.Mathlib.Omega.{arith}
use lib.Dec.{eqb, ltb, leb-zero, leb-suc-zero, leb-suc-suc}
use lib.ListN.{take, drop, length, get_or}
use lib.Seq.{take-nil}
use borrow.Author.Tests.{eqb-true, eq-eqb, ltb-false}
use Rattle.lists.specs.Members.{mem, remove, above, keep}
use Rattle.lists.proofs.Cases.{cases}

-- `simp` does not read 1 as `suc 0`, so this instance has a name
pub ltb·zero-suc : (n : ℕ) → ltb 0 (suc n) ≡ true
ltb·zero-suc n = leb-suc-suc 0 n ∙ leb-zero n

-- ---- a number goes to the front

pub mem_front : (x y : ℕ) (l : List ℕ) → mem y (x ∷ remove x l) ≡ eqb y x || mem y l
mem_front x y [] = refl
mem_front x y (z ∷ l) =
    let ih = mem_front x y l in
    cases (eqb x z)
    (λ e. rw (← eqb-true x z e) (cases (eqb y x) (λ f. simp (f, eq-eqb x x refl)) (λ f. simp (f, eq-eqb x x refl))))
    (λ e. cases (eqb y x) (λ f. simp f) (λ f. cases (eqb y z) (λ g. simp (e, f, g)) (λ g. simp (e, f, g) (rw f at ih))))

pub length_front : (x : ℕ) (l : List ℕ) → length (x ∷ remove x l) ≡ cond (mem x l) (length l) (suc (length l))
length_front x [] = refl
length_front x (y ∷ l) =
    let ih = length_front x l in
    cases (eqb x y)
    (λ e. simp e)
    (λ e. cases (mem x l) (λ f. simp (e, f) (ap suc (rw f at ih))) (λ f. simp (e, f) (ap suc (rw f at ih))))

-- the number that stands first: it is in the list, above it is none, and to the front it does not move
pub head_facts : (x : ℕ) (l : List ℕ) → 0 < length l → get_or l 0 0 ≡ x → (mem x l ≡ true) × (above x l ≡ []) × (x ∷ remove x l ≡ l)
head_facts x [] h e = absurd (omega arith)
head_facts x (y ∷ l) h e =
    let t = eq-eqb x y (sym e) in
    (simp t, simp t, simp t (ap (λ (z : ℕ). z ∷ l) (sym e)))

-- ---- the first w of a list, less x, and the first w of the list less x

pub remove_take : (x w : ℕ) (l : List ℕ) → mem x (take (suc w) l) ≡ true → remove x (take (suc w) l) ≡ take w (remove x l)
remove_take x w [] e = sym (take-nil w)
remove_take x zero (y ∷ ys) e = cases (eqb x y) (λ f. simp f) (λ f. absurd (false≢true (rw f at e)))
remove_take x (suc w) (y ∷ ys) e = cases (eqb x y) (λ f. simp f) (λ f. simp (f, remove_take x w ys (rw f at e)))

pub take_remove : (x w : ℕ) (l : List ℕ) → mem x (take (suc w) l) ≡ false → take w (take (suc w) l) ≡ take w (remove x l)
take_remove x w [] e = refl
take_remove x zero (y ∷ ys) e = refl
take_remove x (suc w) (y ∷ ys) e = cases (eqb x y) (λ f. absurd (true≢false (rw f at e))) (λ f. simp (f, take_remove x w ys (rw f at e)))

pub absent_remove : (x : ℕ) (l : List ℕ) → mem x l ≡ false → remove x l ≡ l
absent_remove x [] h = refl
absent_remove x (y ∷ l) h =
    cases (eqb x y) (λ e. absurd (true≢false (simp e at h))) (λ e. simp e (ap (λ (t : List ℕ). y ∷ t) (absent_remove x l (simp e at h))))

-- ---- those that pass a test

pub keep_remove : (p : ℕ → Bool) (x : ℕ) → p x ≡ true → (l : List ℕ) → keep p (remove x l) ≡ remove x (keep p l)
keep_remove p x h [] = refl
keep_remove p x h (y ∷ ys) =
    let ih = keep_remove p x h ys in
    cases (eqb x y)
    (λ e. rw (← eqb-true x y e) (simp (h, eq-eqb x x refl)))
    (λ e. cases (p y) (λ f. simp (e, f, ih)) (λ f. simp (e, f, ih)))

pub keep_remove_other : (p : ℕ → Bool) (x : ℕ) → p x ≡ false → (l : List ℕ) → keep p (remove x l) ≡ keep p l
keep_remove_other p x h [] = refl
keep_remove_other p x h (y ∷ ys) =
    let ih = keep_remove_other p x h ys in
    cases (eqb x y)
    (λ e. rw (← eqb-true x y e) (simp (h, eq-eqb x x refl)))
    (λ e. simp (e, ih))

-- a stricter test keeps no more
pub length_keep_le : (p q : ℕ → Bool) → ((y : ℕ) → p y ≡ true → q y ≡ true) → (l : List ℕ) → length (keep p l) ≤ length (keep q l)
length_keep_le p q h [] = omega arith
length_keep_le p q h (y ∷ l) =
    let ih = length_keep_le p q h l in
    cases (p y)
    (λ e. simp (e, h y e) (omega arith))
    (λ e. cases (q y) (λ f. simp (e, f) (omega arith)) (λ f. simp (e, f) ih))

-- x is among the first w that pass a test where it is in the list, and fewer than w that pass stand above it
pub mem_take_keep : (p : ℕ → Bool) (x : ℕ) → p x ≡ true → (w : ℕ) (l : List ℕ)
    → mem x (take w (keep p l)) ≡ mem x l && ltb (length (keep p (above x l))) w
mem_take_keep p x h w [] = rw take-nil
mem_take_keep p x h zero (y ∷ ys) = simp (leb-suc-zero, and-false)
mem_take_keep p x h (suc w) (y ∷ ys) =
    cases (eqb x y)
    (λ e. rw (← eqb-true x y e) (simp (h, eq-eqb x x refl, ltb·zero-suc)))
    (λ e. cases (p y)
    (λ f. simp (e, f, leb-suc-suc, mem_take_keep p x h w ys))
    (λ f. simp (e, f, mem_take_keep p x h (suc w) ys)))

-- where x is the first of those that pass p, it is the first of those that pass a stricter q
pub first_keep : (p q : ℕ → Bool) (x : ℕ) → ((y : ℕ) → q y ≡ true → p y ≡ true) → q x ≡ true
    → (l : List ℕ) → mem x (take 1 (keep p l)) ≡ true → (r : List ℕ) × (keep q l ≡ x ∷ r)
first_keep p q x h hx [] m = absurd (false≢true m)
first_keep p q x h hx (y ∷ l) m =
    cases (eqb x y)
    (λ e. let g = eqb-true x y e in (keep q l, rw (← g) (simp hx)))
    (λ e. cases (p y)
    (λ f. absurd (false≢true (simp (f, e) at m)))
    (λ f. cases (q y)
    (λ g. absurd (true≢false (sym (h y g) ∙ f)))
    (λ g. simp g (first_keep p q x h hx l (simp f at m)))))

-- ---- a walk down a list, i entries passed

pub length_keep : (p : ℕ → Bool) (l : List ℕ) → length (keep p l) ≤ length l
length_keep p [] = omega arith
length_keep p (y ∷ l) = cases (p y) (λ e. simp e (omega (arith, length_keep p l))) (λ e. simp e (omega (arith, length_keep p l)))

pub above_le : (x : ℕ) (l : List ℕ) → length (above x l) ≤ length l
above_le x [] = omega arith
above_le x (y ∷ l) = cases (eqb x y) (λ e. simp e (omega arith)) (λ e. simp e (omega (arith, above_le x l)))

pub mem_above : (x : ℕ) (l : List ℕ) → mem x l ≡ ltb (length (above x l)) (length l)
mem_above x [] = refl
mem_above x (y ∷ l) = cases (eqb x y) (λ e. simp (e, ltb·zero-suc)) (λ e. simp (e, leb-suc-suc) (mem_above x l))

-- what stands around the first x
pub around_first : (x : ℕ) (l : List ℕ) → length (above x l) < length l
    → take (length (above x l)) l ++ drop (suc (length (above x l))) l ≡ remove x l
around_first x [] h = absurd (omega arith)
around_first x (y ∷ l) h =
    cases (eqb x y)
    (λ e. simp e)
    (λ e. simp e (ap (λ (t : List ℕ). y ∷ t) (around_first x l (rest (simp e at h)))))
  where
    rest : suc (length (above x l)) < suc (length l) → length (above x l) < length l
    rest q = omega arith

-- a list within room stays so with x in front, where fewer than room stand above x
pub length_front_le : (x room : ℕ) (l : List ℕ) → length (above x l) < room → length l ≤ room → length (x ∷ remove x l) ≤ room
length_front_le x room l h f =
    rw (length_front x l)
    (cases (mem x l)
    (λ e. simp e f)
    (λ e. let g = ltb-false (length (above x l)) (length l) (sym (mem_above x l) ∙ e) in simp e (omega arith)))

pub absent_above : (x : ℕ) (l : List ℕ) → mem x l ≡ false → above x l ≡ l
absent_above x [] h = refl
absent_above x (y ∷ l) h =
    cases (eqb x y) (λ e. absurd (true≢false (simp e at h))) (λ e. simp e (ap (λ (t : List ℕ). y ∷ t) (absent_above x l (simp e at h))))

pub found_above : (x i : ℕ) (l : List ℕ) → i < length l → get_or l i 0 ≡ x → mem x (take i l) ≡ false → above x l ≡ take i l
found_above x i [] h e m = absurd (omega arith)
found_above x zero (y ∷ l) h e m = simp (eq-eqb x y (sym e))
found_above x (suc i) (y ∷ l) h e m =
    cases (eqb x y)
    (λ f. absurd (true≢false (simp f at m)))
    (λ f. simp f (ap (λ (t : List ℕ). y ∷ t) (found_above x i l (omega arith) e (simp f at m))))

pub absent_suc : (x i : ℕ) (l : List ℕ) → i < length l → mem x (take i l) ≡ false → eqb x (get_or l i 0) ≡ false → mem x (take (suc i) l) ≡ false
absent_suc x i [] h m e = absurd (omega arith)
absent_suc x zero (y ∷ l) h m e = simp e
absent_suc x (suc i) (y ∷ l) h m e =
    cases (eqb x y) (λ f. absurd (true≢false (simp f at m))) (λ f. simp f (absent_suc x i l (omega arith) (simp f at m) e))

pub count_suc : (p : ℕ → Bool) (i : ℕ) (l : List ℕ) → i < length l
    → length (keep p (take (suc i) l)) ≡ cond (p (get_or l i 0)) (suc (length (keep p (take i l)))) (length (keep p (take i l)))
count_suc p i [] h = absurd (omega arith)
count_suc p zero (y ∷ l) h = cases (p y) (λ e. simp e) (λ e. simp e)
count_suc p (suc i) (y ∷ l) h =
    let ih = count_suc p i l (omega arith) in
    cases (p y)
    (λ e. simp e (ap suc ih ∙ cases (p (get_or l i 0)) (λ f. simp f) (λ f. simp f)))
    (λ e. simp e ih)
