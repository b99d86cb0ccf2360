-- Laws of an order line's parts: of words and names, then of numbers, each from a place of the line on; then of the cases.
-- Assumes nothing.
use Prim.Native.Nat.{ℕ, suc, ◌+◌, ◌-◌, ◌*◌, ◌≤◌, ◌<◌, min}
use Prim.Native.Nat.compare.{suc-suc}
use mathlib.Core.Path.{◌≡◌, refl, ap, ◌∙◌}
use mathlib.Core.Bool.{cond, true, false, not, ◌&&◌, ◌||◌, and-false, or-true}
use mathlib.Core.List.{List, [], ◌∷◌}
use native.Mathlib.Numerals.{add-one}
use native.Mathlib.Omega.{arith}
use lib.Dec.{eqb, leb}
use lib.ListN.{length, take, drop, get_or, drop_of_length-le}
use lib.Pointwise.{pointwise}
use lib.Seq.{drop-cons}
use borrow.Author.Tests.{eq-eqb, eqb-true, ne_eqb, le-leb, lt-leb, lt-ltb, le-ltb}
use Rattle.std.specs.Prelude.{Option, Some, None}
use Rattle.std.specs.Bool.{then_some}
use Rattle.std.specs.Option.{option_map, ok_or, MatchOption, IsSomeAnd}
use Rattle.lists.proofs.Cases.{cases}
use Rattle.lists.proofs.CompareLaws.{at_most_cut, at_least_cut}
use Rattle.lines.specs.Bytes.{is_decimal}
use Rattle.units.specs.Refusals.{bad_order_line}
use Rattle.units.specs.declared.refusal.Refusal.TheVariants.{BadOrderLine}
use Rattle.lines.specs.OrderLine.{OrderLine, Refused, starts_with, all_decimal, is_number, decimal, value_of, after, is_numbered, is_whole, number_lines, whole_lines, numbered, whole, order_line_of}
use Rattle.lines.specs.Parts.{decimal_number, number_after}
use Rattle.lines.specs.Results.{good_order, order_read}
use Rattle.lines.specs.declared.OrderLine.{OrderLine as GoodOrder}

-- ---- words and names, as the library compares them

pub starts_by_bytes : (name line : List ℕ) → pointwise eqb (take (length name) line) name ≡ starts_with name line
unfolding starts_with
starts_by_bytes [] line = refl
starts_by_bytes (c ∷ name) [] = refl
starts_by_bytes (c ∷ name) (x ∷ line) = ap (eqb x c &&◌) (starts_by_bytes name line)

pub whole_by_bytes : (bytes line : List ℕ) → pointwise eqb line bytes ≡ is_whole bytes line
unfolding starts_with
whole_by_bytes [] [] = refl
whole_by_bytes [] (x ∷ line) = simp (ne_eqb (suc (length line)) 0 (λ e. omega arith))
whole_by_bytes (c ∷ bytes) [] = simp and-false
whole_by_bytes (c ∷ bytes) (x ∷ line) =
    cases (eqb x c) (λ e. simp (e, suc-suc) (whole_by_bytes bytes line)) (λ e. simp (e, and-false))

-- ---- numbers

module _ (l : List ℕ) (i : ℕ) where
  pub digits_more : i < length l → is_decimal (get_or l i 0) ≡ true → all_decimal (drop i l) ≡ all_decimal (drop (i + 1) l)
  unfolding all_decimal
  digits_more h e = rw (drop-cons l i 0 h, add-one i) (simp e)

  pub digits_other : i < length l → is_decimal (get_or l i 0) ≡ false → all_decimal (drop i l) ≡ false
  unfolding all_decimal
  digits_other h e = rw (drop-cons l i 0 h) (simp e)

  pub digits_end : length l ≤ i → all_decimal (drop i l) ≡ true
  unfolding all_decimal
  digits_end h = rw (drop_of_length-le l h) refl

  pub decimal_more : (v : ℕ) → i < length l → decimal v (drop i l) ≡ decimal (v * 10 + (get_or l i 0 - 48)) (drop (i + 1) l)
  unfolding decimal
  decimal_more v h = rw (drop-cons l i 0 h, add-one i) refl

  pub decimal_end : (v : ℕ) → length l ≤ i → decimal v (drop i l) ≡ v
  unfolding decimal
  decimal_end v h = rw (drop_of_length-le l h) refl

-- the three tests, where there is a byte
tests : (l : List ℕ) → 0 < length l → is_number l ≡ all_decimal l && leb (length l) 10 && (not (eqb (get_or l 0 0) 48) || eqb (length l) 1)
unfolding is_number
tests [] h = absurd (omega arith)
tests (c ∷ rest) h = refl

pub number_none : (l : List ℕ) → length l ≡ 0 → decimal_number l ≡ None
unfolding is_number
number_none [] h = refl
number_none (c ∷ rest) h = absurd (omega arith)

module _ (l : List ℕ) (some : 0 < length l) where
  wrong : is_number l ≡ false → decimal_number l ≡ None
  wrong e = simp e

  pub number_long : 10 < length l → decimal_number l ≡ None
  number_long h = wrong (tests l some ∙ simp (lt-leb (length l) 10 h, and-false))

  pub number_zeros : get_or l 0 0 ≡ 48 → 1 < length l → decimal_number l ≡ None
  number_zeros e h = wrong (tests l some ∙ simp (eq-eqb (get_or l 0 0) 48 e, ne_eqb (length l) 1 (λ z. omega arith), and-false))

  pub number_other : all_decimal l ≡ false → decimal_number l ≡ None
  number_other e = wrong (tests l some ∙ simp e)

  pub number_right : length l ≤ 10 → (get_or l 0 0 ≡ 48 → length l ≤ 1) → all_decimal l ≡ true
      → decimal_number l ≡ Some (min (decimal 0 l) 4294967295)
  number_right h zero e =
      let last : not (eqb (get_or l 0 0) 48) || eqb (length l) 1 ≡ true =
      cases (eqb (get_or l 0 0) 48)
      (λ f. let one : length l ≡ 1 = omega (arith, zero (eqb-true (get_or l 0 0) 48 f)) in simp (eq-eqb (length l) 1 one, or-true))
      (λ f. simp f) in
      let is : is_number l ≡ true = tests l some ∙ simp (e, le-leb (length l) 10 h, last) in
      simp is

-- the value handed on is within a limit exactly where the number itself is, from above and from below

pub at_most_handed_on : (digits : List ℕ) (limit : ℕ) → limit < 4294967295 → leb (value_of digits) limit ≡ leb (decimal 0 digits) limit
at_most_handed_on digits limit h = at_most_cut (decimal 0 digits) 4294967295 limit h

pub at_least_handed_on : (digits : List ℕ) (limit : ℕ) → limit ≤ 4294967295 → leb limit (value_of digits) ≡ leb limit (decimal 0 digits)
at_least_handed_on digits limit h = at_least_cut (decimal 0 digits) 4294967295 limit h

-- ---- the line, by the first of the cases that fits

abbrev bad : OrderLine
bad = Refused bad_order_line

abbrev pub words : List ℕ → OrderLine
words line = whole whole_lines line bad

-- what was read of a line, or else what the cases left say
abbrev pub read_or : OrderLine → Option GoodOrder → OrderLine
read_or else (Some line) = good_order line
read_or else None = else

-- the line that a number makes
pub mapped : (read : ℕ → GoodOrder) (number : Option ℕ) (own all : Option GoodOrder) {asked : Option ℕ} → number ≡ asked
    → MatchOption number (own ≡ None) (λ v. IsSomeAnd own (λ l. l ≡ read v)) → all ≡ own → all ≡ option_map read asked
mapped read None own all e m f = f ∙ m ∙ ap (option_map read) e
mapped read (Some v) None all e m f = absurd m
mapped read (Some v) (Some l) all e m f = f ∙ ap Some m ∙ ap (option_map read) e

-- the cases left begin with one more, tried only where nothing was found: `own` is read there
next : {Tried : Type 0} (else own : OrderLine) (found all : Option GoodOrder) → MatchOption found Tried (λ line. all ≡ Some line)
    → (Tried → read_or else all ≡ own) → read_or else all ≡ read_or own found
next else own None all m tried = tried m
next else own (Some line) all m tried = ap (read_or else) m

module _ (line : List ℕ) where
  -- a name and a number
  pub number_next : (n : List ℕ × (ℕ → OrderLine)) (read : ℕ → GoodOrder) → ((v : ℕ) → good_order (read v) ≡ n.1 v)
      → (more : List (List ℕ × (ℕ → OrderLine))) (found : Option GoodOrder) {all : Option GoodOrder} {Tried : Type 0}
      → MatchOption found Tried (λ l. all ≡ Some l) → (Tried → all ≡ option_map read (number_after n.0 line))
      → read_or (numbered more line (words line)) all ≡ read_or (numbered (n ∷ more) line (words line)) found
  unfolding numbered
  number_next n read same more found {all} m own =
      let else = numbered more line (words line) in
      let tried : all ≡ option_map read (number_after n.0 line)
      → read_or else all ≡ cond (is_numbered n.0 line) (n.1 (value_of (after n.0 line))) else =
      λ e. cases (is_numbered n.0 line) (λ h. simp (e, h) (same (value_of (after n.0 line)))) (λ h. simp (e, h)) in
      next else _ found all m (λ t. tried (own t))

  -- a whole line
  pub whole_next : (w : List ℕ × OrderLine) (read : GoodOrder) → good_order read ≡ w.1 → (more : List (List ℕ × OrderLine))
      (found : Option GoodOrder) {all : Option GoodOrder} {Tried : Type 0} → MatchOption found Tried (λ l. all ≡ Some l)
      → (Tried → all ≡ then_some (is_whole w.0 line) read) → read_or (whole more line bad) all ≡ read_or (whole (w ∷ more) line bad) found
  unfolding whole
  whole_next w read same more found {all} m own =
      let else = whole more line bad in
      let tried : all ≡ then_some (is_whole w.0 line) read → read_or else all ≡ cond (is_whole w.0 line) w.1 else =
      λ e. cases (is_whole w.0 line) (λ h. simp (e, h) same) (λ h. simp (e, h)) in
      next else _ found all m (λ t. tried (own t))

-- where nothing is left to try, the line is bad
pub last_whole : (line : List ℕ) (found : Option GoodOrder)
    → order_read (ok_or found BadOrderLine) ≡ read_or (whole [] line bad) found
unfolding whole
last_whole line None = refl
last_whole line (Some read) = refl

-- after the numbers come the whole lines
pub last_number : (line : List ℕ) (found : Option GoodOrder) → read_or (words line) found ≡ read_or (numbered [] line (words line)) found
unfolding numbered
last_number line found = refl

pub order_long : (line : List ℕ) → 255 < length line → order_line_of line ≡ Refused bad_order_line
unfolding order_line_of
order_long line h = simp (lt-ltb 255 (length line) h)

pub order_short : (line : List ℕ) → length line ≤ 255
    → order_line_of line ≡ numbered number_lines line (whole whole_lines line (Refused bad_order_line))
unfolding order_line_of
order_short line h = simp (le-ltb 255 (length line) h)
