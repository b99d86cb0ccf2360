-- Laws of parts of a table: `part`, entries read one by one, `padded`; then of rows, `written_rows` and `set_lengths`: what is read back, and
-- what stays. Not here: one list written over a table (WriteLaws). Assumes nothing.
use Prim.Native.Nat.{ℕ, zero, suc, ◌+◌, ◌-◌, ◌*◌, ◌≤◌, ◌<◌}
use mathlib.Core.Path.{◌≡◌, refl, sym, ap, ◌∙◌}
use mathlib.Core.List.{List, [], ◌∷◌, ◌++◌, append-nil}
use native.Mathlib.Nat.{suc-mul, mul-le-mul_right}
use native.Mathlib.Numerals.{add-one}
use native.Mathlib.Omega.{arith}
use lib.Dec.{eqb, ltb}
use lib.ListN.{length, take, drop, get_or, set, replicate, length-append, length-drop, length-set, length-replicate}
use lib.ListN.{take-append-drop, drop_of_length-le}
use lib.Seq.{take_all, drop-cons, drop-drop, length-take-le, get_or-take, get_or-drop, get_or-set_same, get_or-set_other}
use borrow.Author.Tests.{eqb-true, eqb-false, ltb-true, ltb-false}
use Rattle.lists.specs.Tables.{part, padded, write_at, written_rows, set_lengths}
use Rattle.lists.proofs.Cases.{cases}
use Rattle.lists.proofs.WriteLaws.{length_write, drop_write, read_here, read_before, write_before, write_past}

-- no fewer rows take no less
pub rows_le : (k n r : ℕ) → k ≤ n → k * r ≤ n * r
rows_le k n r h = mul-le-mul_right r h

-- row k of n rows ends within them
pub row_in : (k n r : ℕ) → k < n → k * r + r ≤ n * r
row_in k n r h = omega (arith, suc-mul k r, rows_le (suc k) n r h)

-- ---- parts

pub part_at : (base n : ℕ) (l : List ℕ) (i : ℕ) → i < n → get_or (part base n l) i 0 ≡ get_or l (base + i) 0
part_at base n l i h = get_or-take n (drop base l) i 0 h ∙ get_or-drop base l i 0

pub length_part : (base n : ℕ) (l : List ℕ) → base + n ≤ length l → length (part base n l) ≡ n
length_part base n l h = length-take-le n (drop base l) (rw (length-drop base l) (omega arith))

-- all from a place on
pub part_rest : (base : ℕ) (l : List ℕ) → take (length l - base) (drop base l) ≡ drop base l
part_rest base l = take_all (length l - base) (drop base l) (rw (length-drop base l) (omega arith))

pub put_rest : (base : ℕ) (l p : List ℕ) → take base l ++ (p ++ drop (length l - base) (drop base l)) ≡ take base l ++ p
put_rest base l p =
    ap (λ (q : List ℕ). take base l ++ (p ++ q)) (drop_of_length-le (drop base l) {i = length l - base} (rw (length-drop base l) (omega arith)))
    ∙ ap (λ (q : List ℕ). take base l ++ q) (append-nil p)

-- a part written over itself, also one that the table cuts short
pub own_front : (n : ℕ) (l : List ℕ) → take n l ++ drop (length (take n l)) l ≡ l
own_front zero l = refl
own_front (suc n) [] = refl
own_front (suc n) (x ∷ l) = ap (λ (t : List ℕ). x ∷ t) (own_front n l)

pub write_same : (base n : ℕ) (l : List ℕ) → write_at base (part base n l) l ≡ l
unfolding write_at
write_same base n l = ap (λ (t : List ℕ). take base l ++ t) (own_front n (drop base l)) ∙ take-append-drop base l

pub length_padded : (n : ℕ) (l : List ℕ) → length (padded n l) ≡ length l + (n - length l)
length_padded n l = length-append l (replicate (n - length l) 0) ∙ ap (λ (k : ℕ). length l + k) (length-replicate {A = ℕ} (n - length l) 0)

-- a list that is long enough gets no zeros
pub padded_none : (n : ℕ) (l : List ℕ) → n ≤ length l → padded n l ≡ l
padded_none n l h = let z : n - length l ≡ 0 = omega arith in ap (λ (m : ℕ). l ++ replicate m 0) z ∙ append-nil l

-- ---- entries read one by one: n of them, from place i on

abbrev pub read_from : ℕ → ℕ → List ℕ → List ℕ
read_from zero i l = []
read_from (suc n) i l = get_or l i 0 ∷ read_from n (suc i) l

-- all that there are
pub read_all : (n i : ℕ) (l : List ℕ) → length l ≡ i + n → read_from n i l ≡ drop i l
read_all zero i l h = sym (drop_of_length-le l {i = i} (omega arith))
read_all (suc n) i l h = rw (drop-cons l i 0 (omega arith)) (ap (λ (t : List ℕ). get_or l i 0 ∷ t) (read_all n (suc i) l (omega arith)))

-- ---- rows written over a table: n rows of `room` entries, none longer

module _ (room : ℕ) (top : ℕ → List ℕ) (l : List ℕ) (n : ℕ) (long : n * room ≤ length l)
    (fits : (k : ℕ) → k < n → length (top k) ≤ room) where
  pub length_rows : (k : ℕ) → k ≤ n → length (written_rows room top k l) ≡ length l
  unfolding written_rows
  length_rows zero h = refl
  length_rows (suc k) h =
      let ih = length_rows k (omega arith) in
      length_write (k * room) (top k) (written_rows room top k l) (omega (arith, row_in k n room h, fits k h)) ∙ ih

  start_in : (k : ℕ) → k < n → k * room ≤ length (written_rows room top k l)
  start_in k h = omega (arith, row_in k n room h, length_rows k (omega arith))

  pub drop_rows : (k : ℕ) → k ≤ n → drop (k * room) (written_rows room top k l) ≡ drop (k * room) l
  unfolding written_rows
  drop_rows zero h = refl
  drop_rows (suc k) h =
      rw (suc-mul k room)
      (drop_write (k * room) (top k) (written_rows room top k l) room (start_in k h) (fits k h)
      ∙ sym (drop-drop room (k * room) (written_rows room top k l))
      ∙ ap (drop room) (drop_rows k (omega arith))
      ∙ drop-drop room (k * room) l)

  pub row_after : (m k : ℕ) → m ≤ n → k < m → take (length (top k)) (drop (k * room) (written_rows room top m l)) ≡ top k
  unfolding written_rows
  row_after zero k h f = absurd (omega arith)
  row_after (suc m) k h f =
      cases (eqb k m)
      (λ e. rw (eqb-true k m e) (read_here (m * room) (top m) (written_rows room top m l) (start_in m h)))
      (λ e.
      let q : k ≡ m → ⊥ = eqb-false k m e in
      let g : k < m = omega (arith, q) in
      read_before (m * room) (top m) (written_rows room top m l) (k * room) (length (top k)) (start_in m h)
      (omega (arith, row_in k m room g, fits k (omega arith)))
      ∙ row_after m k (omega arith) g)

  pub entry_after : (m k j : ℕ) → m ≤ n → k < n → length (top k) ≤ j → j < room
      → get_or (written_rows room top m l) (k * room + j) 0 ≡ get_or l (k * room + j) 0
  unfolding written_rows
  entry_after zero k j h f g u = refl
  entry_after (suc m) k j h f g u =
      cases (ltb k m)
      (λ e.
      write_before (m * room) (top m) (written_rows room top m l) (k * room + j) (start_in m h) (omega (arith, row_in k m room (ltb-true k m e)))
      ∙ entry_after m k j (omega arith) f g u)
      (λ e.
      write_past (m * room) (top m) (written_rows room top m l) (k * room + j) (start_in m h) (beyond (ltb-false k m e))
      ∙ entry_after m k j (omega arith) f g u)
    where
      beyond : m ≤ k → m * room + length (top m) ≤ k * room + j
      beyond e =
          cases (eqb k m)
          (λ q. rw (← eqb-true k m q) (omega arith))
          (λ q. let r : k ≡ m → ⊥ = eqb-false k m q in omega (arith, row_in m k room (omega (arith, r)), fits m h))

-- the start and a turn of a loop over the rows
module _ (room : ℕ) (top : ℕ → List ℕ) (l : List ℕ) where
  pub rows_none : l ≡ written_rows room top 0 l
  unfolding written_rows
  rows_none = refl

  pub rows_more : (k : ℕ) (t t' : List ℕ) → t ≡ written_rows room top k l → t' ≡ write_at (k * room) (top k) t → t' ≡ written_rows room top (k + 1) l
  unfolding written_rows
  rows_more k t t' e h = rw (add-one k) (h ∙ ap (write_at (k * room) (top k)) e)

-- ---- lengths set in a list

module _ (top : ℕ → List ℕ) (l : List ℕ) where
  pub lengths_none : l ≡ set_lengths top 0 l
  unfolding set_lengths
  lengths_none = refl

  pub lengths_more : (k n : ℕ) → n ≡ length (top k) → set (set_lengths top k l) k n ≡ set_lengths top (k + 1) l
  unfolding set_lengths
  lengths_more k n e = rw (add-one k) (ap (set (set_lengths top k l) k) e)

  pub lengths_past : (k j : ℕ) → k ≤ j → get_or (set_lengths top k l) j 0 ≡ get_or l j 0
  unfolding set_lengths
  lengths_past zero j h = refl
  lengths_past (suc k) j h = get_or-set_other (set_lengths top k l) k j (length (top k)) 0 (λ e. omega arith) ∙ lengths_past k j (omega arith)

pub length_set_lengths : (top : ℕ → List ℕ) (n : ℕ) (l : List ℕ) → length (set_lengths top n l) ≡ length l
unfolding set_lengths
length_set_lengths top zero l = refl
length_set_lengths top (suc n) l = length-set (set_lengths top n l) n (length (top n)) ∙ length_set_lengths top n l

pub set_lengths_at : (top : ℕ → List ℕ) (n k : ℕ) (l : List ℕ) → n ≤ length l → k < n → get_or (set_lengths top n l) k 0 ≡ length (top k)
unfolding set_lengths
set_lengths_at top zero k l h f = absurd (omega arith)
set_lengths_at top (suc n) k l h f =
    cases (eqb k n)
    (λ e. rw (eqb-true k n e) (get_or-set_same (set_lengths top n l) n (length (top n)) 0 (omega (arith, length_set_lengths top n l))))
    (λ e.
    let q : k ≡ n → ⊥ = eqb-false k n e in
    get_or-set_other (set_lengths top n l) n k (length (top n)) 0 q ∙ set_lengths_at top n k l (omega arith) (omega (arith, q)))

-- ---- rows that are the same

pub rows_same : (room : ℕ) (top up : ℕ → List ℕ) (n : ℕ) (l : List ℕ) → ((k : ℕ) → k < n → top k ≡ up k)
    → written_rows room top n l ≡ written_rows room up n l
unfolding written_rows
rows_same room top up zero l h = refl
rows_same room top up (suc n) l h = rw (h n (omega arith), rows_same room top up n l (λ k g. h k (omega arith)))

-- lengths that are 0: each entry passed is 0, in a short list too
pub lengths_zero : (n k : ℕ) (l : List ℕ) → k < n → get_or (set_lengths (λ (k : ℕ). []) n l) k 0 ≡ 0
unfolding set_lengths
lengths_zero zero k l h = absurd (omega arith)
lengths_zero (suc n) k l h =
    cases (eqb k n)
    (λ e. rw (eqb-true k n e) (set_zero (set_lengths (λ (k : ℕ). []) n l) n))
    (λ e.
    let q : k ≡ n → ⊥ = eqb-false k n e in
    get_or-set_other (set_lengths (λ (k : ℕ). []) n l) n k 0 0 q ∙ lengths_zero n k l (omega (arith, q)))
  where
    set_zero : (l : List ℕ) (i : ℕ) → get_or (set l i 0) i 0 ≡ 0
    set_zero [] i = refl
    set_zero (x ∷ l) zero = refl
    set_zero (x ∷ l) (suc i) = set_zero l i
