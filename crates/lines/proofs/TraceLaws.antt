-- Laws of a trace line's stages, in their order: the label, the gap, the address. Each says how a stage goes on from a place of the line.
-- Assumes nothing.
use Prim.Native.Nat.{ℕ, suc, ◌+◌, ◌*◌, ◌≤◌, ◌<◌}
use mathlib.Core.Path.{◌≡◌, refl, ap, ap₂, ◌∙◌}
use mathlib.Core.Bool.{true, false, cond, ◌&&◌, and-true}
use mathlib.Core.List.{List, [], ◌∷◌}
use native.Mathlib.Nat.{zero-add, add-zero}
use native.Mathlib.Numerals.{add-one}
use native.Mathlib.Omega.{arith}
use lib.Dec.{ltb}
use Rattle.std.specs.List.{prefix_len}
use Rattle.std.proofs.lemmas.List.{length-take}
use lib.ListN.{length, drop, get_or}
use lib.Seq.{drop-cons, drop-length}
use borrow.Author.Tests.{lt-ltb, le-ltb}
use Rattle.lists.proofs.Cases.{cases}
use Rattle.lines.specs.Bytes.{is_blank, is_hex, hex_value, past_longest}
use Rattle.units.specs.Refusals.{bad_label, bad_gap, bad_address, too_long}
use Rattle.lines.specs.TraceLine.{bad_at, labelled, at_label, at_gap, in_gap, in_address, trace_line_of}
use Rattle.lines.specs.Parts.{is_label, blanks}
use Rattle.lines.proofs.ByteLaws.{hex_no_blank}

-- ---- the blanks at the front: here byte by byte, and `blanks` counts them as the library does

leading : List ℕ → ℕ
leading [] = 0
leading (c ∷ rest) = cond (is_blank c) (suc (leading rest)) 0

leading_length : (l : List ℕ) → leading l ≤ length l
unfolding leading
leading_length [] = omega arith
leading_length (c ∷ rest) = let ih = leading_length rest in cases (is_blank c) (λ e. simp e (omega arith)) (λ e. simp e (omega arith))

leading_first : (l : List ℕ) → prefix_len (λ c. is_blank c) l ≡ leading l
unfolding leading
leading_first [] = refl
leading_first (c ∷ rest) = cases (is_blank c) (λ e. simp e (omega (arith, leading_first rest))) (λ e. simp e)

leading_blanks : (l : List ℕ) → blanks l ≡ leading l
leading_blanks l = simp length-take (omega (arith, leading_first l, leading_length l))

-- ---- the gap

module _ (label : ℕ) where
  gap_none : (l : List ℕ) → leading l ≡ 0 → at_gap label l ≡ bad_at bad_gap 2
  unfolding at_gap leading
  gap_none [] h = refl
  gap_none (c ∷ rest) h = cases (is_blank c) (λ e. absurd (omega (arith, simp e at h))) (λ e. simp e)

  -- blanks to the end of the line
  past_blanks : (l : List ℕ) (k : ℕ) → length l ≤ leading l → in_gap label k l ≡ bad_at bad_address (k + length l)
  unfolding in_gap leading
  past_blanks [] k h = ap (bad_at bad_address) (omega arith)
  past_blanks (c ∷ rest) k h =
      cases (is_blank c)
      (λ e. simp e (past_blanks rest (k + 1) (omega (arith, simp e at h)) ∙ ap (bad_at bad_address) (omega arith)))
      (λ e. absurd (omega (arith, simp e at h)))

  -- a byte that is no blank comes after them
  to_address : (l : List ℕ) (k : ℕ) → leading l < length l → in_gap label k l ≡ in_address label 0 0 (k + leading l) (drop (leading l) l)
  unfolding in_gap in_address leading
  to_address [] k h = absurd (omega arith)
  to_address (c ∷ rest) k h =
      cases (is_blank c)
      (λ e.
      let further : k + 1 + leading rest ≡ k + suc (leading rest) = omega arith in
      simp e (to_address rest (k + 1) (omega (arith, simp e at h)) ∙ ap (λ (j : ℕ). in_address label 0 0 j (drop (leading rest) rest)) further))
      (λ e. simp (e, and-true, zero-add, add-zero))

  gap_ended : (l : List ℕ) → 0 < leading l → length l ≤ leading l → at_gap label l ≡ bad_at bad_address (2 + length l)
  unfolding at_gap leading
  gap_ended [] p h = absurd (omega arith)
  gap_ended (c ∷ rest) p h =
      cases (is_blank c)
      (λ e. simp e (past_blanks rest 3 (omega (arith, simp e at h)) ∙ ap (bad_at bad_address) (omega arith)))
      (λ e. absurd (omega (arith, simp e at p)))

  gap_right : (l : List ℕ) → 0 < leading l → leading l < length l → at_gap label l ≡ in_address label 0 0 (2 + leading l) (drop (leading l) l)
  unfolding at_gap leading
  gap_right [] p h = absurd (omega arith)
  gap_right (c ∷ rest) p h =
      cases (is_blank c)
      (λ e.
      let further : 3 + leading rest ≡ 2 + suc (leading rest) = omega arith in
      simp e (to_address rest 3 (omega (arith, simp e at h)) ∙ ap (λ (j : ℕ). in_address label 0 0 j (drop (leading rest) rest)) further))
      (λ e. absurd (omega (arith, simp e at p)))

-- ---- a line from its start to its address

pub too_long_lem : (l : List ℕ) → 255 < length l → trace_line_of l ≡ bad_at too_long past_longest
unfolding trace_line_of
too_long_lem l h = simp (lt-ltb 255 (length l) h)

pub not_long : (l : List ℕ) → length l ≤ 255 → trace_line_of l ≡ at_label l
unfolding trace_line_of
not_long l h = simp (le-ltb 255 (length l) h)

pub line_empty : (l : List ℕ) → length l ≡ 0 → trace_line_of l ≡ bad_at bad_label 1
unfolding trace_line_of at_label
line_empty [] h = refl
line_empty (c ∷ rest) h = absurd (omega arith)

-- the label stands first, and n blanks after it
module _ (l : List ℕ) (label : ℕ) (rest : List ℕ) (is : l ≡ label ∷ rest) (short : length l ≤ 255) where
  at_first : trace_line_of l ≡ cond (is_label label) (at_gap label rest) (bad_at bad_label 1)
  unfolding at_label
  at_first = not_long l short ∙ ap at_label is

  pub line_label_wrong : is_label label ≡ false → trace_line_of l ≡ bad_at bad_label 1
  line_label_wrong e = at_first ∙ simp e

  module _ (right : is_label label ≡ true) (n : ℕ) (at : n ≡ blanks rest) where
    to_gap : trace_line_of l ≡ at_gap label rest
    to_gap = at_first ∙ simp right

    more : length l ≡ 1 + length rest
    more = ap length is ∙ omega arith

    front : n ≡ leading rest
    front = at ∙ leading_blanks rest

    pub start_within : 1 + n ≤ length l
    start_within = omega (arith, front, more, leading_length rest)

    pub line_no_gap : 1 + n ≡ 1 → trace_line_of l ≡ bad_at bad_gap 2
    line_no_gap h = to_gap ∙ gap_none label rest (omega (arith, front))

    pub line_no_address : (1 + n ≡ 1 → ⊥) → 1 + n ≡ length l → trace_line_of l ≡ bad_at bad_address (length l + 1)
    line_no_address some h =
        to_gap ∙ gap_ended label rest (omega (arith, front, some)) (omega (arith, front, more)) ∙ ap (bad_at bad_address) (omega (arith, more))

    pub line_address : (1 + n ≡ 1 → ⊥) → 1 + n < length l → trace_line_of l ≡ in_address label 0 0 (1 + n + 1) (drop (1 + n) l)
    line_address some h =
        let column : 2 + leading rest ≡ 1 + n + 1 = omega (arith, front) in
        let next : 1 + n ≡ suc (leading rest) = omega (arith, front) in
        to_gap ∙ gap_right label rest (omega (arith, front, some)) (omega (arith, front, more))
        ∙ ap₂ (in_address label 0 0) column (rw (next, is) refl)

-- ---- the address: after n digits of the value v, at the place i and the column k

module _ (label n v k : ℕ) (l : List ℕ) (i : ℕ) where
  pub address_more : i < length l → is_hex (get_or l i 0) ≡ true → n < 8
      → in_address label n v k (drop i l) ≡ in_address label (suc n) (v * 16 + hex_value (get_or l i 0)) (k + 1) (drop (i + 1) l)
  unfolding in_address
  address_more h e m = rw (drop-cons l i 0 h, add-one i) (simp (hex_no_blank (get_or l i 0) e, e, lt-ltb n 8 m))

  pub address_end : i ≡ length l → in_address label n v k (drop i l) ≡ labelled label v
  unfolding in_address
  address_end h = rw (h, drop-length l) refl

  pub address_blank : i < length l → is_blank (get_or l i 0) ≡ true → in_address label n v k (drop i l) ≡ labelled label v
  unfolding in_address
  address_blank h e = rw (drop-cons l i 0 h) (simp e)

  pub address_wrong : i < length l → is_blank (get_or l i 0) ≡ false → is_hex (get_or l i 0) && ltb n 8 ≡ false
      → in_address label n v k (drop i l) ≡ bad_at bad_address k
  unfolding in_address
  address_wrong h e f = rw (drop-cons l i 0 h) (simp (e, f))
