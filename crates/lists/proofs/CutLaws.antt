-- The rows of one group cut out of a table, raised and put back: the same as raising them where they stand.
-- Assumes nothing.
use Prim.Native.Nat.{ℕ, zero, suc, ◌+◌, ◌*◌, ◌≤◌, ◌<◌}
use mathlib.Core.Path.{◌≡◌, refl, sym, ap, ap₂, ◌∙◌}
use mathlib.Core.Bool.{Bool, cond, ◌&&◌}
use mathlib.Core.List.{List}
use native.Mathlib.Nat.{zero-add, suc-mul, add-mul, mul_assoc}
use native.Mathlib.Omega.{arith}
use lib.Dec.{ltb, leb}
use lib.ListN.{length, take, get_or, set}
use borrow.Author.Tests.{ltb-true}
use Rattle.lists.specs.Tables.{part, write_at, written_rows, raised_rows, raised_groups, over_row, over_groups}
use Rattle.lists.specs.Tests.{any_to}
use Rattle.lists.proofs.Cases.{cases}
use Rattle.lists.proofs.PartLaws.{row_in, write_same, part_at, length_part, length_rows, drop_rows}
use Rattle.lists.proofs.RaiseLaws.{cell_in, length_raised}
use Rattle.lists.proofs.TestLaws.{any_same}
use Rattle.lists.proofs.WriteLaws.{write_set, write_at_lem}

module _ (w : ℕ) (d : ℕ → ℕ) (first base len : ℕ) (start : base ≡ first * w) where
  -- where an entry of the part stands in the table
  place : (n e : ℕ) → base + ((0 + n) * w + e) ≡ (first + n) * w + e
  place n e = let z = ap (λ (m : ℕ). m * w) (zero-add n) in omega (arith, start, add-mul first n w)

  pub raised_part : (l : List ℕ) → base + len ≤ length l → (n : ℕ) → n * w ≤ len
      → write_at base (raised_rows w 0 d n (part base len l)) l ≡ raised_rows w first d n l
  unfolding raised_rows
  raised_part l long zero h = write_same base len l
  raised_part l long (suc n) h =
      let less : n * w + w ≤ len = omega (arith, suc-mul n w) in
      let ih = raised_part l long n (omega arith) in
      cases (ltb (d n) w)
      (λ t. simp t (up (ltb-true (d n) w t) less ih))
      (λ t. simp t ih)
    where
      P : List ℕ
      P = raised_rows w 0 d n (part base len l)

      up : d n < w → n * w + w ≤ len → write_at base P l ≡ raised_rows w first d n l
          → write_at base (set P ((0 + n) * w + d n) (get_or P ((0 + n) * w + d n) 0 + 1)) l
          ≡ set (raised_rows w first d n l) ((first + n) * w + d n) (get_or (raised_rows w first d n l) ((first + n) * w + d n) 0 + 1)
      up small less ih =
          let z = ap (λ (m : ℕ). m * w) (zero-add n) in
          let i = (0 + n) * w + d n in
          let inside : (0 + n) * w + d n < length P = omega (arith, length_raised w 0 d n (part base len l), length_part base len l long) in
          write_set base P l i (get_or P i 0 + 1) (omega arith) inside
          ∙ ap (λ (x : ℕ). set (write_at base P l) (base + i) (x + 1)) (sym (write_at_lem base P l i (omega arith) inside))
          ∙ ap₂ (λ (j : ℕ) (t : List ℕ). set t j (get_or t j 0 + 1)) (place n (d n)) ih

  pub over_part : (l : List ℕ) (c n : ℕ) → n * w ≤ len → (s : ℕ) → s < n → over_row w 0 d c (part base len l) s ≡ over_row w first d c l s
  over_part l c n h s g =
      cases (ltb (d s) w)
      (λ t.
      let z = ap (λ (m : ℕ). m * w) (zero-add s) in
      let inside : (0 + s) * w + d s < len = omega (arith, cell_in w s n (d s) g (ltb-true (d s) w t)) in
      simp t (ap (leb c) (part_at base len l ((0 + s) * w + d s) inside ∙ ap (λ (i : ℕ). get_or l i 0) (place s (d s)))))
      (λ t. simp t)

-- all groups
module _ (w r : ℕ) (f : ℕ → Bool) (d : ℕ → ℕ → ℕ) (l : List ℕ) where
  abbrev pub cut_raised : ℕ → List ℕ
  cut_raised k = cond (f k) (raised_rows w 0 (d k) r (part (k * (r * w)) (r * w) l)) (part (k * (r * w)) (r * w) l)

  start_of : (k : ℕ) → k * (r * w) ≡ k * r * w
  start_of k = sym (mul_assoc k r w)

  length_cut : (n : ℕ) → n * (r * w) ≤ length l → (k : ℕ) → k < n → length (cut_raised k) ≡ r * w
  length_cut n long k h =
      let p = length_part (k * (r * w)) (r * w) l (omega (arith, row_in k n (r * w) h)) in
      cases (f k) (λ e. simp e (length_raised w 0 (d k) r (part (k * (r * w)) (r * w) l) ∙ p)) (λ e. simp e p)

  pub raised_cut : (n : ℕ) → n * (r * w) ≤ length l → written_rows (r * w) cut_raised n l ≡ raised_groups w r f d n l
  unfolding written_rows raised_groups
  raised_cut zero long = refl
  raised_cut (suc n) long =
      let more = suc-mul n (r * w) in
      let fits : (k : ℕ) → k < suc n → length (cut_raised k) ≤ r * w = λ k h. omega (arith, length_cut (suc n) long k h) in
      let ih = raised_cut n (omega arith) in
      let same : part (n * (r * w)) (r * w) l ≡ part (n * (r * w)) (r * w) (written_rows (r * w) cut_raised n l)
      = ap (take (r * w)) (sym (drop_rows (r * w) cut_raised l (suc n) long fits n (omega arith))) in
      let room : n * (r * w) + r * w ≤ length (written_rows (r * w) cut_raised n l)
      = omega (arith, length_rows (r * w) cut_raised l (suc n) long fits n (omega arith)) in
      cases (f n)
      (λ e. simp e
      (ap (λ (p : List ℕ). write_at (n * (r * w)) (raised_rows w 0 (d n) r p) (written_rows (r * w) cut_raised n l)) same
      ∙ raised_part w (d n) (n * r) (n * (r * w)) (r * w) (start_of n) (written_rows (r * w) cut_raised n l) room r (omega arith)
      ∙ ap (raised_rows w (n * r) (d n) r) ih))
      (λ e. simp e
      (ap (λ (p : List ℕ). write_at (n * (r * w)) p (written_rows (r * w) cut_raised n l)) same
      ∙ write_same (n * (r * w)) (r * w) (written_rows (r * w) cut_raised n l)
      ∙ ih))

  pub over_cut : (c n : ℕ) → any_to n (λ (k : ℕ). f k && any_to r (over_row w 0 (d k) c (part (k * (r * w)) (r * w) l))) ≡ over_groups w r f d c n l
  over_cut c n =
      any_same n (λ (k : ℕ). f k && any_to r (over_row w 0 (d k) c (part (k * (r * w)) (r * w) l)))
      (λ (k : ℕ). f k && any_to r (over_row w (k * r) (d k) c l))
      (λ k h.
      ap (λ (t : Bool). f k && t)
      (any_same r (over_row w 0 (d k) c (part (k * (r * w)) (r * w) l)) (over_row w (k * r) (d k) c l)
      (over_part w (d k) (k * r) (k * (r * w)) (r * w) (start_of k) l c r (omega arith))))
