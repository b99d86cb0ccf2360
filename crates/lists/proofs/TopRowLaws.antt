-- Rows of counts of which the first goes up, one row or groups of rows in one go; the rows from one on, cut out of the table and put back, and those
-- from a first depth of 0 on; tests over groups; and rows that are written over themselves. Not here: the rows of one group cut out (CutLaws).
-- Assumes nothing.
use Prim.Native.Nat.{ℕ, zero, suc, ◌+◌, ◌-◌, ◌*◌, ◌<◌, ◌≤◌}
use mathlib.Core.Path.{◌≡◌, refl, sym, ap, ap₂, ◌∙◌, subst}
use mathlib.Core.Bool.{Bool, true, false, ◌&&◌, ◌||◌, or-false, or_assoc}
use mathlib.Core.List.{List, ◌++◌}
use native.Mathlib.Nat.{add-zero, add-suc, add_assoc, zero-add, zero-mul, suc-mul, add-mul}
use native.Mathlib.Omega.{arith}
use lib.Dec.{ltb, leb}
use lib.ListN.{length, take, drop, get_or, set, take-append-drop}
use lib.Seq.{set-get_or, length-take-le, get_or-drop, get_or-append-add}
use borrow.Author.Tests.{lt-ltb}
use Rattle.lists.specs.Tables.{write_at, written_rows, set_lengths, raise_if, raised_rows, raised_groups, over_row}
use Rattle.lists.specs.Tests.{any_to}
use Rattle.lists.proofs.RaiseLaws.{raised_past, raised_yes, raised_same}
use Rattle.lists.proofs.TestLaws.{any_same}
use Rattle.lists.proofs.WriteLaws.{set_append_add}

-- ---- a row whose depth is 0

pub over_top : (w first : ℕ) (d : ℕ → ℕ) (ceiling : ℕ) (l : List ℕ) (s : ℕ) → d s ≡ 0 → 0 < w
    → over_row w first d ceiling l s ≡ leb ceiling (get_or l ((first + s) * w) 0)
over_top w first d ceiling l s e h =
    ap (λ (n : ℕ). ltb n w && leb ceiling (get_or l ((first + s) * w + n) 0)) e
    ∙ ap (λ (t : Bool). t && leb ceiling (get_or l ((first + s) * w + 0) 0)) (lt-ltb 0 w h)
    ∙ ap (λ (n : ℕ). leb ceiling (get_or l n 0)) (add-zero ((first + s) * w))

-- the same count, of the rows that the table begins with
pub over_at : (w : ℕ) (d : ℕ → ℕ) (ceiling : ℕ) (l : List ℕ) (s : ℕ)
    → over_row w 0 d ceiling l s ≡ (ltb (d s) w && leb ceiling (get_or l (s * w + d s) 0))
over_at w d ceiling l s = ap (λ (r : ℕ). ltb (d s) w && leb ceiling (get_or l (r * w + d s) 0)) (zero-add s)

-- ---- the turns of a loop over the rows that the table begins with, and over their first counts

pub raised_here : (w : ℕ) (d : ℕ → ℕ) (s : ℕ) (l c : List ℕ) → c ≡ raised_rows w 0 d s l → d s < w
    → set c (s * w + d s) (get_or c (s * w + d s) 0 + 1) ≡ raised_rows w 0 d (s + 1) l
raised_here w d s l c e h =
    subst (λ (r : ℕ). set c (r * w + d s) (get_or c (r * w + d s) 0 + 1) ≡ raised_rows w 0 d (s + 1) l) (zero-add s) (raised_yes w 0 d s l c e h)

pub top_raise : (w s : ℕ) (l c : List ℕ) → c ≡ raised_rows w 0 (λ (t : ℕ). 0) s l → 0 < w
    → set c (s * w) (get_or c (s * w) 0 + 1) ≡ raised_rows w 0 (λ (t : ℕ). 0) (s + 1) l
top_raise w s l c e h =
    subst (λ (i : ℕ). set c i (get_or c i 0 + 1) ≡ raised_rows w 0 (λ (t : ℕ). 0) (s + 1) l) (add-zero (s * w)) (raised_here w (λ (t : ℕ). 0) s l c e h)

pub top_past : (w s : ℕ) (l : List ℕ) → get_or (raised_rows w 0 (λ (t : ℕ). 0) s l) (s * w) 0 ≡ get_or l (s * w) 0
top_past w s l = let e = ap (λ (n : ℕ). n * w) (zero-add s) in raised_past w 0 (λ (t : ℕ). 0) s l (s * w) (omega arith)

-- ---- the rows from row m on, cut out of the table and put back behind what stands before them

raise_if_append : (t : Bool) (i : ℕ) (xs ys : List ℕ) → raise_if t (length xs + i) (xs ++ ys) ≡ xs ++ raise_if t i ys
raise_if_append true i xs ys =
    ap (λ (v : ℕ). set (xs ++ ys) (length xs + i) (v + 1)) (get_or-append-add xs ys i 0) ∙ set_append_add xs ys i (get_or ys i 0 + 1)
raise_if_append false i xs ys = refl

-- a place of row m + s, from where row m starts
pub cell_past : (w m s d : ℕ) → m * w + ((0 + s) * w + d) ≡ (m + s) * w + d
cell_past w m s d = omega (arith, add-mul m s w)

pub raised_rest : (w m : ℕ) (d : ℕ → ℕ) (n : ℕ) (l : List ℕ) → m * w ≤ length l
    → take (m * w) l ++ raised_rows w 0 d n (drop (m * w) l) ≡ raised_rows w m d n l
unfolding raised_rows
raised_rest w m d zero l h = take-append-drop (m * w) l
raised_rest w m d (suc n) l h =
    sym (raise_if_append (ltb (d n) w) ((0 + n) * w + d n) (take (m * w) l) (raised_rows w 0 d n (drop (m * w) l)))
    ∙ ap (λ (b : ℕ). raise_if (ltb (d n) w) (b + ((0 + n) * w + d n)) (take (m * w) l ++ raised_rows w 0 d n (drop (m * w) l)))
    (length-take-le (m * w) l h)
    ∙ ap (λ (i : ℕ). raise_if (ltb (d n) w) i (take (m * w) l ++ raised_rows w 0 d n (drop (m * w) l))) (cell_past w m n (d n))
    ∙ ap (raise_if (ltb (d n) w) ((m + n) * w + d n)) (raised_rest w m d n l h)

pub over_rest : (w m : ℕ) (d : ℕ → ℕ) (ceiling : ℕ) (l : List ℕ) (s : ℕ) → over_row w 0 d ceiling (drop (m * w) l) s ≡ over_row w m d ceiling l s
over_rest w m d ceiling l s =
    ap (λ (v : ℕ). ltb (d s) w && leb ceiling v)
    (get_or-drop (m * w) l ((0 + s) * w + d s) 0 ∙ ap (λ (i : ℕ). get_or l i 0) (cell_past w m s (d s)))

-- rows one after the other
raised_split : (w first : ℕ) (d : ℕ → ℕ) (m n : ℕ) (l : List ℕ)
    → raised_rows w first d (m + n) l ≡ raised_rows w (first + m) (λ (t : ℕ). d (m + t)) n (raised_rows w first d m l)
unfolding raised_rows
raised_split w first d m zero l = rw (add-zero m)
raised_split w first d m (suc n) l =
    rw (add-suc m n)
    (ap (λ (i : ℕ). raise_if (ltb (d (m + n)) w) (i * w + d (m + n)) (raised_rows w first d (m + n) l)) (sym (add_assoc first m n))
    ∙ ap (raise_if (ltb (d (m + n)) w) ((first + m + n) * w + d (m + n))) (raised_split w first d m n l))

-- ---- groups of rows, taken in one go

any_split : (m n : ℕ) (p : ℕ → Bool) → any_to (m + n) p ≡ (any_to m p || any_to n (λ (s : ℕ). p (m + s)))
unfolding any_to
any_split m zero p = rw (add-zero m) (sym (or-false (any_to m p)))
any_split m (suc n) p =
    rw (add-suc m n)
    (ap (λ (t : Bool). t || p (m + n)) (any_split m n p) ∙ or_assoc (any_to m p) (any_to n (λ (s : ℕ). p (m + s))) (p (m + n)))

pub any_groups : (n r : ℕ) (p : ℕ → Bool) → any_to n (λ (k : ℕ). any_to r (λ (s : ℕ). p (k * r + s))) ≡ any_to (n * r) p
unfolding any_to
any_groups zero r p = sym (ap (λ (m : ℕ). any_to m p) (zero-mul r))
any_groups (suc n) r p =
    ap (λ (t : Bool). t || any_to r (λ (s : ℕ). p (n * r + s))) (any_groups n r p)
    ∙ sym (any_split (n * r) r p)
    ∙ ap (λ (m : ℕ). any_to m p) (sym (suc-mul n r))

pub raised_groups_lem : (w r n : ℕ) (l : List ℕ) → raised_groups w r (λ (k : ℕ). true) (λ (k s : ℕ). 0) n l ≡ raised_rows w 0 (λ (t : ℕ). 0) (n * r) l
unfolding raised_groups raised_rows
raised_groups_lem w r zero l = sym (ap (λ (m : ℕ). raised_rows w 0 (λ (t : ℕ). 0) m l) (zero-mul r))
raised_groups_lem w r (suc n) l =
    ap (raised_rows w (n * r) (λ (t : ℕ). 0) r) (raised_groups_lem w r n l)
    ∙ ap (λ (m : ℕ). raised_rows w m (λ (t : ℕ). 0) r (raised_rows w 0 (λ (t : ℕ). 0) (n * r) l)) (sym (zero-add (n * r)))
    ∙ sym (raised_split w 0 (λ (t : ℕ). 0) (n * r) r l)
    ∙ ap (λ (m : ℕ). raised_rows w 0 (λ (t : ℕ). 0) m l) (sym (suc-mul n r))

-- ---- n rows, whose depths are 0 from row s on

module _ (w : ℕ) (d : ℕ → ℕ) (l : List ℕ) (s n : ℕ) (h : s ≤ n)
    (falling : (i j : ℕ) → i ≤ j → j < n → d i ≡ 0 → d j ≡ 0) (from : d s ≡ 0) where
  flat : (t : ℕ) → t < n - s → d (s + t) ≡ 0
  flat t g = falling s (s + t) (omega arith) (omega arith) from

  split : s + (n - s) ≡ n
  split = omega arith

  -- their first counts are within the table
  pub tops_in : (m : ℕ) → n * w ≤ m → (n - s) * w ≤ m - s * w
  tops_in m g = omega (arith, add-mul s (n - s) w, ap (λ (k : ℕ). k * w) split)

  -- none of the rows before them is over, so whether one is lies with their first counts
  pub over_tops : (ceiling : ℕ) → 0 < w → any_to s (over_row w 0 d ceiling l) ≡ false
      → any_to (n - s) (λ (t : ℕ). leb ceiling (get_or (drop (s * w) l) (t * w) 0)) ≡ any_to n (over_row w 0 d ceiling l)
  over_tops ceiling pos none =
      any_same (n - s) (λ (t : ℕ). leb ceiling (get_or (drop (s * w) l) (t * w) 0)) (λ (t : ℕ). over_row w 0 d ceiling l (s + t))
      (λ t g.
      ap (leb ceiling) (get_or-drop (s * w) l (t * w) 0 ∙ ap (λ (i : ℕ). get_or l i 0) (omega (arith, add-mul s t w)))
      ∙ sym (over_top w 0 d ceiling l (s + t) (flat t g) pos))
      ∙ ap (λ (b : Bool). b || any_to (n - s) (λ (t : ℕ). over_row w 0 d ceiling l (s + t))) (sym none)
      ∙ sym (any_split s (n - s) (over_row w 0 d ceiling l))
      ∙ ap (λ (k : ℕ). any_to k (over_row w 0 d ceiling l)) split

  -- where the rows before them are raised, in c, their first counts are as they were
  pub tops_below : (most : ℕ) (c : List ℕ) → c ≡ raised_rows w 0 d s l → 0 < w
      → ((t : ℕ) → t < n → d t < w → get_or l ((0 + t) * w + d t) 0 < most)
      → (t : ℕ) → t < n - s → get_or (drop (s * w) c) (t * w) 0 < most
  tops_below most c e pos below t g =
      let top = flat t g in
      let at : (0 + (s + t)) * w + d (s + t) ≡ s * w + t * w = omega (arith, add-mul s t w) in
      let kept = ap (λ (q : List ℕ). get_or q (s * w + t * w) 0) e ∙ raised_past w 0 d s l (s * w + t * w) (omega (arith, zero-add s)) in
      rw (get_or-drop, kept, ← at) (below (s + t) (omega arith) (omega arith))

  -- the rows before them are raised, in c, and then their first counts
  pub raised_tops : (c : List ℕ) → c ≡ raised_rows w 0 d s l → s * w ≤ length c
      → take (s * w) c ++ raised_rows w 0 (λ (t : ℕ). 0) (n - s) (drop (s * w) c) ≡ raised_rows w 0 d n l
  raised_tops c e g =
      raised_rest w s (λ (t : ℕ). 0) (n - s) c g
      ∙ raised_same w s (λ (t : ℕ). 0) (λ (t : ℕ). d (s + t)) (n - s) c (λ t g. sym (flat t g))
      ∙ ap₂ (λ (m : ℕ) (q : List ℕ). raised_rows w m (λ (t : ℕ). d (s + t)) (n - s) q) (sym (zero-add s)) e
      ∙ sym (raised_split w 0 d s (n - s) l)
      ∙ ap (λ (k : ℕ). raised_rows w 0 d k l) split

-- ---- what is written over itself

pub written_same : (room : ℕ) (top : ℕ → List ℕ) (l : List ℕ) (n : ℕ) → ((k : ℕ) → k < n → write_at (k * room) (top k) l ≡ l)
    → written_rows room top n l ≡ l
unfolding written_rows
written_same room top l zero h = refl
written_same room top l (suc n) h = ap (write_at (n * room) (top n)) (written_same room top l n (λ k g. h k (omega arith))) ∙ h n (omega arith)

pub lengths_same : (top : ℕ → List ℕ) (l : List ℕ) (n : ℕ) → ((k : ℕ) → k < n → length (top k) ≡ get_or l k 0) → set_lengths top n l ≡ l
unfolding set_lengths
lengths_same top l zero h = refl
lengths_same top l (suc n) h =
    ap (λ (t : List ℕ). set t n (length (top n))) (lengths_same top l n (λ k g. h k (omega arith)))
    ∙ ap (set l n) (h n (omega arith))
    ∙ set-get_or l n 0
