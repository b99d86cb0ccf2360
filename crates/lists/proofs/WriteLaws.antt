-- Laws of `write_at`, a list written over a table from a place on: lengths, what is read back, and what stays.
-- Assumes nothing.
use Prim.Native.Nat.{ℕ, zero, suc, ◌+◌, ◌-◌, ◌≤◌, ◌<◌}
use mathlib.Core.Path.{◌≡◌, sym, ap, ◌∙◌, subst}
use mathlib.Core.List.{List, [], ◌∷◌, ◌++◌}
use native.Mathlib.Nat.{zero-add, suc-add}
use native.Mathlib.Omega.{arith}
use lib.ListN.{length, take, drop, get_or, set, length-append, length-take, length-drop, length-set, get_or-append}
use lib.Seq.{take-nil, drop-nil, length-take-le, take-append_seam, take-append-le, take-take, drop-append-add, drop_at, drop-drop}
use lib.Seq.{get_or-take, get_or-drop, get_or-append-add, set-append_left}
use Rattle.lists.specs.Tables.{write_at}

pub length_write : (base : ℕ) (p l : List ℕ) → base + length p ≤ length l → length (write_at base p l) ≡ length l
unfolding write_at
length_write base p l h = simp (length-append, length-take, length-drop) (omega arith)

drop_over : (p l : List ℕ) (n : ℕ) → length p ≤ n → drop n (p ++ drop (length p) l) ≡ drop n l
drop_over p l n h =
    let e : length p + (n - length p) ≡ n = omega arith in
    subst (λ (m : ℕ). drop m (p ++ drop (length p) l) ≡ drop m l) e
    (drop-append-add p (drop (length p) l) (n - length p) ∙ drop-drop (n - length p) (length p) l)

drop_base : (base : ℕ) (p l : List ℕ) → base ≤ length l → drop base (write_at base p l) ≡ p ++ drop (length p) (drop base l)
unfolding write_at
drop_base base p l h = drop_at (take base l) (p ++ drop (length p) (drop base l)) base (length-take-le base l h)

pub drop_write : (base : ℕ) (p l : List ℕ) (n : ℕ) → base ≤ length l → length p ≤ n → drop (base + n) (write_at base p l) ≡ drop (base + n) l
drop_write base p l n h f =
    sym (drop-drop n base (write_at base p l)) ∙ ap (drop n) (drop_base base p l h) ∙ drop_over p (drop base l) n f ∙ drop-drop n base l

take_drop : (u i : ℕ) (l : List ℕ) → take u (drop i l) ≡ drop i (take (i + u) l)
take_drop u zero l = rw zero-add
take_drop u (suc i) [] = simp (take-nil, drop-nil)
take_drop u (suc i) (x ∷ l) = rw suc-add (take_drop u i l)

pub read_here : (base : ℕ) (p l : List ℕ) → base ≤ length l → take (length p) (drop base (write_at base p l)) ≡ p
read_here base p l h = ap (take (length p)) (drop_base base p l h) ∙ take-append_seam p (drop (length p) (drop base l))

pub read_before : (base : ℕ) (p l : List ℕ) (i u : ℕ) → base ≤ length l → i + u ≤ base
    → take u (drop i (write_at base p l)) ≡ take u (drop i l)
unfolding write_at
read_before base p l i u h f =
    take_drop u i (write_at base p l)
    ∙ ap (drop i)
    (take-append-le (i + u) (take base l) (p ++ drop (length p) (drop base l)) (rw (length-take-le base l h) f) ∙ take-take (i + u) base l f)
    ∙ sym (take_drop u i l)

pub write_before : (base : ℕ) (p l : List ℕ) (i : ℕ) → base ≤ length l → i < base → get_or (write_at base p l) i 0 ≡ get_or l i 0
unfolding write_at
write_before base p l i h f =
    get_or-append (take base l) (p ++ drop (length p) (drop base l)) 0 i (rw (length-take-le base l h) f) ∙ get_or-take base l i 0 f

pub write_past : (base : ℕ) (p l : List ℕ) (i : ℕ) → base ≤ length l → base + length p ≤ i → get_or (write_at base p l) i 0 ≡ get_or l i 0
write_past base p l i h f =
    let e : base + length p + (i - (base + length p)) ≡ i = omega arith in
    ap (λ (n : ℕ). get_or (write_at base p l) n 0) (sym e)
    ∙ sym (get_or-drop (base + length p) (write_at base p l) (i - (base + length p)) 0)
    ∙ ap (λ (q : List ℕ). get_or q (i - (base + length p)) 0) (drop_write base p l (length p) h (omega arith))
    ∙ get_or-drop (base + length p) l (i - (base + length p)) 0
    ∙ ap (λ (n : ℕ). get_or l n 0) e

-- ---- one entry of what is written

pub set_append_add : (xs ys : List ℕ) (i v : ℕ) → set (xs ++ ys) (length xs + i) v ≡ xs ++ set ys i v
set_append_add [] ys i v = rw (zero-add i)
set_append_add (x ∷ xs) ys i v = rw (suc-add (length xs) i) (ap (λ (t : List ℕ). x ∷ t) (set_append_add xs ys i v))

pub write_set : (base : ℕ) (p l : List ℕ) (i v : ℕ) → base ≤ length l → i < length p
    → write_at base (set p i v) l ≡ set (write_at base p l) (base + i) v
unfolding write_at
write_set base p l i v h f =
    ap (λ (n : ℕ). take base l ++ (set p i v ++ drop n (drop base l))) (length-set p i v)
    ∙ ap (λ (t : List ℕ). take base l ++ t) (sym (set-append_left p (drop (length p) (drop base l)) i v f))
    ∙ sym
    (ap (λ (n : ℕ). set (take base l ++ (p ++ drop (length p) (drop base l))) (n + i) v) (sym (length-take-le base l h))
    ∙ set_append_add (take base l) (p ++ drop (length p) (drop base l)) i v)

pub write_at_lem : (base : ℕ) (p l : List ℕ) (i : ℕ) → base ≤ length l → i < length p → get_or (write_at base p l) (base + i) 0 ≡ get_or p i 0
unfolding write_at
write_at_lem base p l i h f =
    ap (λ (n : ℕ). get_or (take base l ++ (p ++ drop (length p) (drop base l))) (n + i) 0) (sym (length-take-le base l h))
    ∙ get_or-append-add (take base l) (p ++ drop (length p) (drop base l)) i 0
    ∙ get_or-append p (drop (length p) (drop base l)) 0 i f

-- a part put back with as many entries is a list written over the table
pub put_writes : (base n : ℕ) (p l : List ℕ) → length p ≡ n → take base l ++ (p ++ drop n (drop base l)) ≡ write_at base p l
unfolding write_at
put_writes base n p l e = ap (λ (m : ℕ). take base l ++ (p ++ drop m (drop base l))) (sym e)
