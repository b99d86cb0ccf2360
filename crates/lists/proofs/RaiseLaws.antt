-- Laws of `raised_rows` and `raised_groups`: which counts go up by one, and that no other does.
-- Assumes nothing.
use Prim.Native.Nat.{ℕ, zero, suc, ◌+◌, ◌*◌, ◌≤◌, ◌<◌}
use mathlib.Core.Path.{◌≡◌, refl, ap, ◌∙◌}
use mathlib.Core.Bool.{Bool, true, false, cond}
use mathlib.Core.List.{List}
use native.Mathlib.Nat.{suc-mul, add-mul, mul-one, mul_assoc, mul-le-mul_left}
use native.Mathlib.Numerals.{add-one}
use native.Mathlib.Omega.{arith}
use lib.Arith.{digits_lt}
use lib.Dec.{eqb, ltb}
use lib.ListN.{length, get_or, set, length-set}
use lib.Seq.{get_or-set_same, get_or-set_other}
use borrow.Author.Tests.{eqb-true, eqb-false, eq-eqb, ltb-true, lt-ltb, le-ltb}
use Rattle.lists.specs.Tables.{raise_if, raised_rows, raised_groups}
use Rattle.lists.proofs.Cases.{cases}
use Rattle.lists.proofs.PartLaws.{row_in, rows_le}

-- a place of row r is within n rows of w
pub cell_in : (w r n d : ℕ) → r < n → d < w → r * w + d < n * w
cell_in w r n d h f = digits_lt {q = r} {m = n} {r = d} {c = w} h f

-- the first w of a row's places end within the table: of row k * rows + s, in groups of rows; and so does all on the way there
pub cell_end : (groups rows ways k s w : ℕ) → k < groups → s < rows → w ≤ ways
    → (k * rows + s < groups * rows) × ((k * rows + s) * ways + w ≤ groups * rows * ways)
cell_end groups rows ways k s w h f g =
    let q = cell_in rows k groups s h f in
    (q, omega (arith, row_in (k * rows + s) (groups * rows) ways q))

-- a place in row s of group k, and the same from where the group starts
pub cell_in_group : (rows ways k s d : ℕ) → (k * rows + s) * ways + d ≡ k * (rows * ways) + (s * ways + d)
cell_in_group rows ways k s d = omega (arith, add-mul (k * rows) s ways, mul_assoc k rows ways)

-- the number of a row is no more than the place where it starts
pub row_le : (r w : ℕ) → 0 < w → r ≤ r * w
row_le r w h = omega (arith, mul-one r, mul-le-mul_left {m = 1} {n = w} r h)

-- ---- one count

length_raise_if : (t : Bool) (i : ℕ) (l : List ℕ) → length (raise_if t i l) ≡ length l
length_raise_if true i l = length-set l i (get_or l i 0 + 1)
length_raise_if false i l = refl

raise_if_other : (t : Bool) (i j : ℕ) (l : List ℕ) → (t ≡ true → j ≡ i → ⊥) → get_or (raise_if t i l) j 0 ≡ get_or l j 0
raise_if_other true i j l h = get_or-set_other l i j (get_or l i 0 + 1) 0 (h refl)
raise_if_other false i j l h = refl

-- ---- rows

module _ (w first : ℕ) (d : ℕ → ℕ) where
  pub length_raised : (n : ℕ) (l : List ℕ) → length (raised_rows w first d n l) ≡ length l
  unfolding raised_rows
  length_raised zero l = refl
  length_raised (suc s) l = length_raise_if (ltb (d s) w) ((first + s) * w + d s) (raised_rows w first d s l) ∙ length_raised s l

  pub raised_past : (n : ℕ) (l : List ℕ) (j : ℕ) → (first + n) * w ≤ j → get_or (raised_rows w first d n l) j 0 ≡ get_or l j 0
  unfolding raised_rows
  raised_past zero l j h = refl
  raised_past (suc s) l j h =
      raise_if_other (ltb (d s) w) ((first + s) * w + d s) j (raised_rows w first d s l)
      (λ t e. let q = cell_in w (first + s) (first + suc s) (d s) (omega arith) (ltb-true (d s) w t) in omega arith)
      ∙ raised_past s l j (omega (arith, rows_le (first + s) (first + suc s) w (omega arith)))

  -- the start and a turn of a loop over the rows
  pub raised_none : (l : List ℕ) → l ≡ raised_rows w first d 0 l
  unfolding raised_rows
  raised_none l = refl

  pub raised_yes : (s : ℕ) (l c : List ℕ) → c ≡ raised_rows w first d s l → d s < w
      → set c ((first + s) * w + d s) (get_or c ((first + s) * w + d s) 0 + 1) ≡ raised_rows w first d (s + 1) l
  unfolding raised_rows
  raised_yes s l c e h =
      let i = (first + s) * w + d s in
      rw (add-one s) (simp (lt-ltb (d s) w h) (ap (λ (t : List ℕ). set t i (get_or t i 0 + 1)) e))

  pub raised_not : (s : ℕ) (l c : List ℕ) → c ≡ raised_rows w first d s l → w ≤ d s → c ≡ raised_rows w first d (s + 1) l
  unfolding raised_rows
  raised_not s l c e h = rw (add-one s) (simp (le-ltb (d s) w h) e)

  -- exactly which
  pub raised_at : (n : ℕ) (l : List ℕ) → (first + n) * w ≤ length l → (s e : ℕ) → s < n → e < w
      → get_or (raised_rows w first d n l) ((first + s) * w + e) 0 ≡ get_or l ((first + s) * w + e) 0 + cond (eqb e (d s)) 1 0
  unfolding raised_rows
  raised_at zero l long s e h f = absurd (omega arith)
  raised_at (suc n) l long s e h f =
      cases (eqb s n)
      (λ q. rw (eqb-true s n q) here)
      (λ q.
      let r : s ≡ n → ⊥ = eqb-false s n q in
      let g : s < n = omega (arith, r) in
      there g (raised_at n l (omega (arith, rows_le (first + n) (first + suc n) w (omega arith))) s e g f))
    where
      row : (first + n) * w + w ≤ length l
      row = omega (arith, row_in (first + n) (first + suc n) w (omega arith))

      so_far : List ℕ
      so_far = raised_rows w first d n l

      cell : ℕ
      cell = (first + n) * w + e

      here : get_or (raise_if (ltb (d n) w) ((first + n) * w + d n) (raised_rows w first d n l)) ((first + n) * w + e) 0
          ≡ get_or l ((first + n) * w + e) 0 + cond (eqb e (d n)) 1 0
      here =
          cases (eqb e (d n))
          (λ g.
          let q = eqb-true e (d n) g in
          rw (← q)
          (simp (lt-ltb e w f, eq-eqb e e refl)
          (get_or-set_same so_far cell (get_or so_far cell 0 + 1) 0 (omega (arith, length_raised n l, row))
          ∙ ap (λ (v : ℕ). v + 1) (raised_past n l cell (omega arith)))))
          (λ g.
          let q : e ≡ d n → ⊥ = eqb-false e (d n) g in
          simp g
          (raise_if_other (ltb (d n) w) ((first + n) * w + d n) ((first + n) * w + e) (raised_rows w first d n l) (λ t z. q (omega arith))
          ∙ raised_past n l ((first + n) * w + e) (omega arith)
          ∙ omega arith))

      there : s < n → get_or (raised_rows w first d n l) ((first + s) * w + e) 0 ≡ get_or l ((first + s) * w + e) 0 + cond (eqb e (d s)) 1 0
          → get_or (raised_rows w first d (suc n) l) ((first + s) * w + e) 0 ≡ get_or l ((first + s) * w + e) 0 + cond (eqb e (d s)) 1 0
      there g ih =
          raise_if_other (ltb (d n) w) ((first + n) * w + d n) ((first + s) * w + e) (raised_rows w first d n l)
          (λ t z. let q = cell_in w (first + s) (first + n) e (omega arith) f in omega arith)
          ∙ ih

pub raised_same : (w first : ℕ) (d e : ℕ → ℕ) (n : ℕ) (l : List ℕ) → ((s : ℕ) → s < n → d s ≡ e s)
    → raised_rows w first d n l ≡ raised_rows w first e n l
unfolding raised_rows
raised_same w first d e zero l h = refl
raised_same w first d e (suc s) l h = rw (h s (omega arith), raised_same w first d e s l (λ k q. h k (omega arith)))

-- ---- groups of rows

module _ (w r : ℕ) (f : ℕ → Bool) (d : ℕ → ℕ → ℕ) where
  pub groups_past : (k : ℕ) (l : List ℕ) (j : ℕ) → k * r * w ≤ j → get_or (raised_groups w r f d k l) j 0 ≡ get_or l j 0
  unfolding raised_groups
  groups_past zero l j h = refl
  groups_past (suc k) l j h =
      let up : k * r * w ≤ j = omega (arith, rows_le (k * r) (suc k * r) w (omega (arith, suc-mul k r))) in
      cases (f k)
      (λ e. simp e (raised_past w (k * r) (d k) r (raised_groups w r f d k l) j (rw (← suc-mul k r) h) ∙ groups_past k l j up))
      (λ e. simp e (groups_past k l j up))

  -- the start and a turn of a loop over the groups
  pub groups_none : (l : List ℕ) → l ≡ raised_groups w r f d 0 l
  unfolding raised_groups
  groups_none l = refl

  pub groups_yes : (k : ℕ) (l c c' : List ℕ) → c ≡ raised_groups w r f d k l → f k ≡ true → c' ≡ raised_rows w (k * r) (d k) r c
      → c' ≡ raised_groups w r f d (k + 1) l
  unfolding raised_groups
  groups_yes k l c c' e h g = rw (add-one k) (simp h (g ∙ ap (raised_rows w (k * r) (d k) r) e))

  pub groups_not : (k : ℕ) (l c : List ℕ) → c ≡ raised_groups w r f d k l → f k ≡ false → c ≡ raised_groups w r f d (k + 1) l
  unfolding raised_groups
  groups_not k l c e h = rw (add-one k) (simp h e)

pub groups_same : (w r : ℕ) (f g : ℕ → Bool) (d e : ℕ → ℕ → ℕ) (n : ℕ) (l : List ℕ) → ((k : ℕ) → k < n → f k ≡ g k)
    → ((k s : ℕ) → k < n → s < r → d k s ≡ e k s) → raised_groups w r f d n l ≡ raised_groups w r g e n l
unfolding raised_groups
groups_same w r f g d e zero l same deep = refl
groups_same w r f g d e (suc k) l same deep =
    let before = groups_same w r f g d e k l (λ j q. same j (omega arith)) (λ j s q. deep j s (omega arith)) in
    let this = raised_same w (k * r) (d k) (e k) r (raised_groups w r g e k l) (λ s q. deep k s (omega arith) q) in
    rw (same k (omega arith), before, this)
