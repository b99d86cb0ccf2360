-- Laws of `zeroed` and `values_to`: lengths, what is read, what stays; a table whose first entries are known.
-- Assumes nothing.
use Prim.Native.Nat.{ℕ, zero, suc, ◌+◌, ◌≤◌, ◌<◌, min}
use mathlib.Core.Path.{◌≡◌, refl, sym, ap, ap₂, ◌∙◌}
use mathlib.Core.List.{List, [], ◌∷◌, ◌++◌}
use native.Mathlib.Omega.{arith}
use lib.ListN.{length, take, drop, get_or, replicate, length-replicate}
use lib.Seq.{ext_get_or}
use Rattle.lists.specs.Tables.{zeroed, values_to, part}
use Rattle.lists.proofs.PartLaws.{part_at, length_part}

pub zeros_at : (n i : ℕ) → ◌≡◌ {A = ℕ} (get_or (replicate n 0) i 0) 0
zeros_at zero i = refl
zeros_at (suc n) zero = refl
zeros_at (suc n) (suc i) = zeros_at n i

-- ---- zeroed

pub length_zeroed : (n : ℕ) (l : List ℕ) → length (zeroed n l) ≡ length l
length_zeroed zero l = refl
length_zeroed (suc n) [] = refl
length_zeroed (suc n) (x ∷ l) = ap suc (length_zeroed n l)

pub get_d_zeroed : (n i : ℕ) (l : List ℕ) → i < n → get_or (zeroed n l) i 0 ≡ 0
get_d_zeroed zero i l h = absurd (omega arith)
get_d_zeroed (suc n) i [] h = refl
get_d_zeroed (suc n) zero (x ∷ l) h = refl
get_d_zeroed (suc n) (suc i) (x ∷ l) h = get_d_zeroed n i l (omega arith)

pub drop_zeroed : (n : ℕ) (l : List ℕ) → drop n (zeroed n l) ≡ drop n l
drop_zeroed zero l = refl
drop_zeroed (suc n) [] = refl
drop_zeroed (suc n) (x ∷ l) = drop_zeroed n l

-- what stood before the first n does not matter
pub zeroed_same : (n : ℕ) (l m : List ℕ) → length l ≡ length m → drop n l ≡ drop n m → zeroed n l ≡ zeroed n m
zeroed_same zero l m h e = e
zeroed_same (suc n) [] [] h e = refl
zeroed_same (suc n) [] (y ∷ m) h e = absurd (omega arith)
zeroed_same (suc n) (x ∷ l) [] h e = absurd (omega arith)
zeroed_same (suc n) (x ∷ l) (y ∷ m) h e = ap (λ (t : List ℕ). 0 ∷ t) (zeroed_same n l m (omega arith) e)

pub part_zeroed : (base n m : ℕ) (l : List ℕ) → base + n ≤ m → m ≤ length l → part base n (zeroed m l) ≡ replicate n 0
part_zeroed base n m l h f =
    let long = length_part base n (zeroed m l) (omega (arith, length_zeroed m l)) in
    ext_get_or 0 (part base n (zeroed m l)) (replicate n 0) (long ∙ sym (length-replicate {A = ℕ} n 0))
    (λ i g. part_at base n (zeroed m l) i (omega arith) ∙ get_d_zeroed m (base + i) l (omega arith) ∙ sym (zeros_at n i))

-- zeros in place of the first entries, as many of them as the list has
pub zeros_before : (n end : ℕ) (l : List ℕ) → end ≡ min n (length l) → replicate (length (take end l)) 0 ++ drop end l ≡ zeroed n l
zeros_before zero zero l h = refl
zeros_before zero (suc end) l h = absurd (omega arith)
zeros_before (suc n) zero [] h = refl
zeros_before (suc n) (suc end) [] h = absurd (omega arith)
zeros_before (suc n) zero (x ∷ l) h = absurd (omega arith)
zeros_before (suc n) (suc end) (x ∷ l) h = ap (λ (t : List ℕ). 0 ∷ t) (zeros_before n end l (omega arith))

-- ---- a table by its first n entries

pub values_are : (n : ℕ) (f : ℕ → ℕ) (t : List ℕ) → n ≤ length t → ((i : ℕ) → i < n → get_or t i 0 ≡ f i) → t ≡ values_to n f ++ drop n t
values_are zero f t h same = refl
values_are (suc n) f [] h same = absurd (omega arith)
values_are (suc n) f (x ∷ t) h same =
    ap₂ ◌∷◌ (same 0 (omega arith)) (values_are n (λ i. f (suc i)) t (omega arith) (λ i l. same (suc i) (omega arith)))
