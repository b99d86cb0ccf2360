-- What holds in each case holds of what every line reads as: a refused order line has number 10, and a refused trace line 14, 15, 16 or 17.
-- Assumes nothing.
use Prim.Native.Nat.{ℕ, suc, ◌+◌, ◌*◌, ◌<◌}
use Prim.Native.Char.{code}
use mathlib.Core.Bool.{◌&&◌}
use mathlib.Core.List.{List, [], ◌∷◌}
use native.Mathlib.Omega.{arith}
use lib.Dec.{eqb, ltb}
use lib.ListN.{length}
use Rattle.lists.proofs.Cases.{picked}
use Rattle.units.specs.declared.Addr.{Addr}
use Rattle.units.specs.Refusals.{bad_order_line, bad_label, bad_gap, bad_address, too_long}
use Rattle.lines.specs.Bytes.{between, is_blank, is_hex, hex_value, longest, past_longest}
use Rattle.lines.specs.TraceLine.{TraceLine, Ref, Escape, bad_at, labelled, at_label, at_gap, in_gap, in_address, trace_line_of}
use Rattle.lines.specs.OrderLine.{OrderLine, Refused, value_of, after, is_numbered, is_whole, number_lines, whole_lines, numbered, whole, order_line_of}
use Rattle.lines.specs.declared.Kind.{Kind}
use Rattle.lines.specs.declared.Kind.TheVariants.{Read, Write, Fetch, Unknown}

-- ---- an order line

module _ (P : OrderLine → Type 0) where
  abbrev pub EachNumber : List (List ℕ × (ℕ → OrderLine)) → Type 0
  EachNumber [] = Unit {0}
  EachNumber (n ∷ more) = ((value : ℕ) → P (n.1 value)) × EachNumber more

  abbrev pub EachWhole : List (List ℕ × OrderLine) → Type 0
  EachWhole [] = Unit {0}
  EachWhole (w ∷ more) = P w.1 × EachWhole more

  numbered_cases : (l : List (List ℕ × (ℕ → OrderLine))) → EachNumber l → (line : List ℕ) (else : OrderLine) → P else → P (numbered l line else)
  unfolding numbered
  numbered_cases [] h line else p = p
  numbered_cases (n ∷ more) h line else p =
      picked P (is_numbered n.0 line) (λ e. h.0 (value_of (after n.0 line))) (λ e. numbered_cases more h.1 line else p)

  whole_cases : (l : List (List ℕ × OrderLine)) → EachWhole l → (line : List ℕ) (else : OrderLine) → P else → P (whole l line else)
  unfolding whole
  whole_cases [] h line else p = p
  whole_cases (w ∷ more) h line else p = picked P (is_whole w.0 line) (λ e. h.0) (λ e. whole_cases more h.1 line else p)

  pub order_cases : EachNumber number_lines → EachWhole whole_lines → P (Refused bad_order_line) → (line : List ℕ) → P (order_line_of line)
  unfolding order_line_of
  order_cases numbers words bad line =
      picked P (ltb longest (length line))
      (λ e. bad)
      (λ e.
      let words_or_not = whole_cases whole_lines words line (Refused bad_order_line) bad in
      numbered_cases number_lines numbers line (whole whole_lines line (Refused bad_order_line)) words_or_not)

-- ---- a trace line

module _ (P : TraceLine → Type 0) (ref : (kind : Kind) (a : Addr) → P (Ref kind a)) (escape : P Escape) where
  pub labelled_cases : (label address : ℕ) → P (labelled label address)
  labelled_cases label address =
      picked P (eqb label (code "0"))
      (λ e. ref Read (record { 0 = address }))
      (λ e. picked P (eqb label (code "1"))
      (λ e. ref Write (record { 0 = address }))
      (λ e. picked P (eqb label (code "2"))
      (λ e. ref Fetch (record { 0 = address }))
      (λ e. picked P (eqb label (code "3")) (λ e. ref Unknown (record { 0 = address })) (λ e. escape))))

  -- a wrong label is at column 1, a wrong gap at 2, and an address is wrong from column 3 on
  module _ (label_bad : P (bad_at bad_label 1)) (gap_bad : P (bad_at bad_gap 2)) (address_bad : (k : ℕ) → 2 < k → P (bad_at bad_address k)) where
    address_cases : (label n address k : ℕ) → 2 < k → (rest : List ℕ) → P (in_address label n address k rest)
    unfolding in_address
    address_cases label n address k h [] = labelled_cases label address
    address_cases label n address k h (c ∷ rest) =
        picked P (is_blank c)
        (λ e. labelled_cases label address)
        (λ e. picked P (is_hex c && ltb n 8)
        (λ f. address_cases label (suc n) (address * 16 + hex_value c) (k + 1) (omega arith) rest)
        (λ f. address_bad k h))

    gap_cases : (label k : ℕ) → 2 < k → (rest : List ℕ) → P (in_gap label k rest)
    unfolding in_gap
    gap_cases label k h [] = address_bad k h
    gap_cases label k h (c ∷ rest) =
        picked P (is_blank c)
        (λ e. gap_cases label (k + 1) (omega arith) rest)
        (λ e. picked P (is_hex c) (λ f. address_cases label 1 (hex_value c) (k + 1) (omega arith) rest) (λ f. address_bad k h))

    at_gap_cases : (label : ℕ) (rest : List ℕ) → P (at_gap label rest)
    unfolding at_gap
    at_gap_cases label [] = gap_bad
    at_gap_cases label (c ∷ rest) = picked P (is_blank c) (λ e. gap_cases label 3 (omega arith) rest) (λ e. gap_bad)

    pub label_cases : (line : List ℕ) → P (at_label line)
    unfolding at_label
    label_cases [] = label_bad
    label_cases (c ∷ rest) = picked P (between "0" "4" c) (λ e. at_gap_cases c rest) (λ e. label_bad)

    pub trace_cases : P (bad_at too_long past_longest) → (line : List ℕ) → P (trace_line_of line)
    unfolding trace_line_of
    trace_cases long line = picked P (ltb longest (length line)) (λ e. long) (λ e. label_cases line)
