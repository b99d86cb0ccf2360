-- The loop of a walk: what it knows on its way, and what it comes to; and the length of a stack and its entries, read from the table.
-- Assumes nothing.
use Prim.Native.Nat.{ℕ, ◌+◌, ◌*◌, ◌≤◌, ◌<◌}
use mathlib.Core.Path.{◌≡◌, sym, ap, ◌∙◌}
use mathlib.Core.Bool.{false}
use mathlib.Core.List.{List, ◌++◌}
use native.Mathlib.Nat.{zero-add}
use native.Mathlib.Numerals.{add-one}
use native.Mathlib.Omega.{arith}
use lib.Bits.{bit_xor}
use lib.Count.{count_trailing_zeros}
use lib.Dec.{eqb, leb}
use lib.ListN.{length, take, drop, get_or, set, length-take, length-append, length-drop, get_or-append}
use lib.Seq.{length-take-le, take_all, get_or-take, get_or-set_same, get_or-set_other}
use borrow.Author.Tests.{eqb-true, eqb-false, ne_eqb, leb-true, leb-false}
use Rattle.lists.specs.Members.{mem, keep}
use Rattle.lists.specs.Tables.{Bumped}
use Rattle.lists.proofs.Cases.{cases}
use Rattle.lists.proofs.MemberLaws.{length_keep, absent_above, found_above, absent_suc, count_suc}
use Rattle.lists.proofs.PartLaws.{part_at, length_part}
use Rattle.cache.specs.Cache.{set_of}
use Rattle.cache.proofs.SetLaws.{shared}
use Rattle.order.specs.Limits.{sizes}
use Rattle.taking.specs.Places.{used_of, stack_at}
use Rattle.taking.specs.Parts.{Fit, Walked, walk_of}
use Rattle.taking.specs.declared.Opened.{Opened}
use Rattle.taking.specs.declared.references.Walk.{Walk}
use Rattle.taking.proofs.NeedLaws.{stack_fits}

-- the walk over a stack l has passed i entries: block x is none of them, and those that share its set are counted, for the first r numbers of sets
pub record Walking (r : ℕ) (l : List ℕ) (x i : ℕ) (ds : List ℕ) : Type 0 where
  pub long : length ds ≡ 15
  pub absent : mem x (take i l) ≡ false
  pub counted : (s : ℕ) → s < r → get_or ds s 0 ≡ length (keep (λ y. eqb (set_of s x) (set_of s y)) (take i l))

-- ---- one stack

module _ (r : ℕ) (l : List ℕ) (x i : ℕ) (ds : List ℕ) (w : Walking r l x i ds) where
  pub count_small : (s : ℕ) → s < r → get_or (take r ds) s 0 ≤ i
  count_small s g =
      omega
      (arith, get_or-take r ds s 0 g, w.counted s g, length_keep (λ y. eqb (set_of s x) (set_of s y)) (take i l), length-take i l)

  pub walk_found : i < length l → get_or l i 0 ≡ x → Walked r l x (record { place = i; depths = ds })
  walk_found g e =
      let up = found_above x i l g e w.absent in
      record {
        place = sym (ap length up ∙ length-take-le i l (omega arith));
        long = w.long;
        deep = λ s q. w.counted s q ∙ ap (λ (t : List ℕ). length (keep (λ y. eqb (set_of s x) (set_of s y)) t)) (sym up);
      }

  pub walk_end : length l ≤ i → Walked r l x (record { place = length l; depths = ds })
  walk_end e =
      let all = take_all i l e in
      let up = absent_above x l (ap (mem x) (sym all) ∙ w.absent) in
      record {
        place = sym (ap length up);
        long = w.long;
        deep = λ s q. w.counted s q ∙ ap (λ (t : List ℕ). length (keep (λ y. eqb (set_of s x) (set_of s y)) t)) (all ∙ sym up);
      }

  -- the first r depths are counted on, to `new`
  pub walk_on : (new : List ℕ) → i < length l → (get_or l i 0 ≡ x → ⊥) → r ≤ 15 → length new ≡ length (take r ds)
      → Bumped 0 (length (take r ds)) (count_trailing_zeros 32 (bit_xor x (get_or l i 0))) (take r ds) new → Walking r l x (i + 1) (new ++ drop r ds)
  walk_on new g ne few same b = record {
    long = simp (length-append, length-drop) (omega (arith, few_long, w.long));
    absent = rw (add-one i) (absent_suc x i l g w.absent (ne_eqb x y (λ e. ne (sym e))));
    counted = counted;
  }
    where
      y : ℕ
      y = get_or l i 0

      few_long : length (take r ds) ≡ r
      few_long = length-take-le r ds (omega (arith, w.long))

      counted : (s : ℕ) → s < r → get_or (new ++ drop r ds) s 0 ≡ length (keep (λ y. eqb (set_of s x) (set_of s y)) (take (i + 1) l))
      counted s q =
          let law = shared s 32 x y (omega arith) in
          let one = count_suc (λ z. eqb (set_of s x) (set_of s z)) i l g in
          let z = count_trailing_zeros 32 (bit_xor x y) in
          let was = get_or-take r ds s 0 q ∙ w.counted s q in
          let here : s < length (take r ds) = omega (arith, few_long) in
          rw (add-one i)
          (get_or-append new (drop r ds) 0 s (omega arith)
          ∙ cases (leb s z)
          (λ e. (simp zero-add at (b.more s here (leb-true s z e))) ∙ ap (λ (n : ℕ). n + 1) was ∙ add-one _ ∙ sym (one ∙ simp (sym law ∙ e)))
          (λ e. (simp zero-add at (b.less s here (leb-false s z e))) ∙ was ∙ sym (one ∙ simp (sym law ∙ e))))

-- ---- every stack

-- one walk more is put in its place
pub looked_more : (P : ℕ → Walk → Type 0) (ws : List Walk) (k : ℕ) (w : Walk) → k < length ws → ((j : ℕ) → j < k → P j (walk_of ws j)) → P k w
    → (j : ℕ) → j < k + 1 → P j (walk_of (set ws k w) j)
looked_more P ws k w h so_far here j g =
    cases (eqb j k)
    (λ e. rw (eqb-true j k e, get_or-set_same) here)
    (λ e. let ne : j ≡ k → ⊥ = eqb-false j k e in rw get_or-set_other (so_far j (omega (arith, ne))))

pub length_stack : (v : Opened) (st : List ℕ) (m k : ℕ) → Fit v (length st) m → k < sizes v.order → length (stack_at v st k) ≡ used_of v k
length_stack v st m k f h = length_part (k * v.order.room) (used_of v k) st (omega (arith, stack_fits v (length st) m k f h, f.used k h))

pub read_stack : (v : Opened) (st : List ℕ) (k i : ℕ) → i < used_of v k → get_or (stack_at v st k) i 0 ≡ get_or st (k * v.order.room + i) 0
read_stack v st k i h = part_at (k * v.order.room) (used_of v k) st i h
