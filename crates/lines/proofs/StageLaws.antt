-- The column of a trace line that is refused is right: through the stages of a line, the last first, and then of the reader's answer.
-- Assumes nothing.
use Prim.Native.Nat.{ℕ, suc, ◌+◌, ◌*◌, ◌≤◌, ◌<◌}
use mathlib.Core.Path.{◌≡◌, refl, sym, ap, ◌∙◌, subst}
use mathlib.Core.Bool.{Bool, true, false, cond, ◌&&◌}
use mathlib.Core.List.{List, [], ◌∷◌}
use native.Mathlib.Omega.{arith}
use lib.Dec.{eqb, ltb}
use lib.ListN.{length}
use borrow.Author.Tests.{ne_eqb}
use Rattle.lists.proofs.Cases.{picked}
use Rattle.units.specs.Refusals.{bad_label, bad_gap, bad_address}
use Rattle.lines.specs.Bytes.{text, between, is_blank, is_hex, hex_value, longest}
use Rattle.lines.specs.Column.{CanGoOn, FirstWrong}
use Rattle.lines.specs.TraceLine.{BadLine, TraceLine, Ref, Escape, Refused, bad_at, labelled, in_address, in_gap, at_gap, at_label, trace_line_of, is_read, is_good}
use Rattle.lines.specs.Said.{trace_said}
use Rattle.lines.proofs.CaseLaws.{labelled_cases, label_cases}
use Rattle.lines.proofs.ColumnLaws.{WrongAfter, wrong_end, wrong_byte, wrong_later, first_wrong}
use Rattle.lines.proofs.SaidLaws.{trace_said_unique}
use Rattle.lines.proofs.TraceLaws.{too_long_lem, not_long}

-- the lines that a stage takes
abbrev taken_by : (List ℕ → TraceLine) → List ℕ → Bool
taken_by stage l = is_read (stage l)

-- a stage that starts at column k reads the line as t: where it is refused, the column is right
abbrev Right : (List ℕ → TraceLine) → List ℕ → ℕ → TraceLine → Type 0
Right stage line k (Ref kind a) = Unit {0}
Right stage line k Escape = Unit {0}
Right stage line k (Refused bad) = (i : ℕ) × (bad.column ≡ k + i) × WrongAfter (taken_by stage) line i

module _ (stage : List ℕ → TraceLine) (k : ℕ) where
  right_end : CanGoOn (taken_by stage) [] → taken_by stage [] ≡ false → (n : ℕ) → Right stage [] k (bad_at n k)
  right_end some e n = (0, omega arith, wrong_end (taken_by stage) some e)

  module _ (c : ℕ) (rest : List ℕ) where
    right_byte : CanGoOn (taken_by stage) [] → ((l : List ℕ) → taken_by stage (c ∷ l) ≡ false) → (n : ℕ) → Right stage (c ∷ rest) k (bad_at n k)
    right_byte some none n = (0, omega arith, wrong_byte (taken_by stage) c rest some none)

    -- the byte leads to the next stage
    right_later : (next : List ℕ → TraceLine) → ((l : List ℕ) → taken_by stage (c ∷ l) ≡ taken_by next l) → (t : TraceLine)
        → Right next rest (k + 1) t → Right stage (c ∷ rest) k t
    right_later next leads (Ref kind a) r = tt
    right_later next leads Escape r = tt
    right_later next leads (Refused bad) r =
        (suc r.0, omega (arith, r.1), wrong_later (taken_by stage) (taken_by next) c rest r.0 leads r.2)

  right_labelled : (line : List ℕ) (label address : ℕ) → Right stage line k (labelled label address)
  right_labelled line = labelled_cases (Right stage line k) (λ kind a. tt) tt

labelled_read : (label address : ℕ) → is_read (labelled label address) ≡ true
labelled_read = labelled_cases (λ (t : TraceLine). is_read t ≡ true) (λ kind a. refl) refl

address_right : (label n address k : ℕ) (rest : List ℕ) → Right (in_address label n address k) rest k (in_address label n address k rest)
unfolding in_address
address_right label n address k [] = right_labelled (in_address label n address k) k [] label address
address_right label n address k (c ∷ rest) =
    let stage = in_address label n address k in
    let next = in_address label (suc n) (address * 16 + hex_value c) (k + 1) in
    picked (Right stage (c ∷ rest) k) (is_blank c)
    (λ e. right_labelled stage k (c ∷ rest) label address)
    (λ e. picked (Right stage (c ∷ rest) k) (is_hex c && ltb n 8)
    (λ f. right_later stage k c rest next (λ l. simp (e, f)) (next rest)
    (address_right label (suc n) (address * 16 + hex_value c) (k + 1) rest))
    (λ f. right_byte stage k c rest ([], labelled_read label address) (λ l. simp (e, f)) bad_address))

gap_right : (label k : ℕ) (rest : List ℕ) → Right (in_gap label k) rest k (in_gap label k rest)
unfolding in_gap in_address
gap_right label k [] = right_end (in_gap label k) k (text "0", labelled_read label 0) refl bad_address
gap_right label k (c ∷ rest) =
    let stage = in_gap label k in
    let next = in_address label 1 (hex_value c) (k + 1) in
    picked (Right stage (c ∷ rest) k) (is_blank c)
    (λ e. right_later stage k c rest (in_gap label (k + 1)) (λ l. simp e) (in_gap label (k + 1) rest) (gap_right label (k + 1) rest))
    (λ e. picked (Right stage (c ∷ rest) k) (is_hex c)
    (λ f. right_later stage k c rest next (λ l. simp (e, f)) (next rest) (address_right label 1 (hex_value c) (k + 1) rest))
    (λ f. right_byte stage k c rest (text "0", labelled_read label 0) (λ l. simp (e, f)) bad_address))

at_gap_right : (label : ℕ) (rest : List ℕ) → Right (at_gap label) rest 2 (at_gap label rest)
unfolding at_gap in_gap in_address
at_gap_right label [] = right_end (at_gap label) 2 (text " 0", labelled_read label 0) refl bad_gap
at_gap_right label (c ∷ rest) =
    picked (Right (at_gap label) (c ∷ rest) 2) (is_blank c)
    (λ e. right_later (at_gap label) 2 c rest (in_gap label 3) (λ l. simp e) (in_gap label 3 rest) (gap_right label 3 rest))
    (λ e. right_byte (at_gap label) 2 c rest (text " 0", labelled_read label 0) (λ l. simp e) bad_gap)

label_right : (line : List ℕ) → Right at_label line 1 (at_label line)
unfolding at_label at_gap in_gap in_address
label_right [] = right_end at_label 1 (text "0 0", refl) refl bad_label
label_right (c ∷ rest) =
    picked (Right at_label (c ∷ rest) 1) (between "0" "4" c)
    (λ e. right_later at_label 1 c rest (at_gap c) (λ l. simp e) (at_gap c rest) (at_gap_right c rest))
    (λ e. right_byte at_label 1 c rest (text "0 0", refl) (λ l. simp e) bad_label)

-- ---- the reader's answer

-- the number goes by the column
abbrev number_at : ℕ → ℕ
number_at column = cond (eqb column 1) bad_label (cond (eqb column 2) bad_gap bad_address)

abbrev Numbered : TraceLine → Type 0
Numbered (Ref kind a) = Unit {0}
Numbered Escape = Unit {0}
Numbered (Refused bad) = bad.number ≡ number_at bad.column

address_number : (k : ℕ) → 2 < k → bad_address ≡ number_at k
address_number k h = simp (ne_eqb k 1 (λ e. omega arith), ne_eqb k 2 (λ e. omega arith))

module _ (line : List ℕ) (t : TraceLine) (reads : trace_said t ≡ trace_said (trace_line_of line)) where
  is_read_lem : t ≡ trace_line_of line
  is_read_lem = trace_said_unique t (trace_line_of line) reads

  -- a line too long is 17 at column 256
  pub long_at_256 : longest < length line → t ≡ bad_at 17 256
  long_at_256 h = is_read_lem ∙ too_long_lem line h

  module _ (short : length line ≤ longest) where
    as_stages : t ≡ at_label line
    as_stages = is_read_lem ∙ not_long line short

    -- any other is taken exactly if it is good
    pub taken_if_good : is_read t ≡ is_good line
    taken_if_good = ap is_read as_stages

    -- and one that is refused is refused at the first byte that is wrong
    pub column_right : (bad : BadLine) → t ≡ Refused bad → FirstWrong is_good line bad.column
    column_right bad e =
        let r = subst (Right at_label line 1) (sym as_stages ∙ e) (label_right line) in
        subst (FirstWrong is_good line) (sym r.1) (first_wrong is_good line r.0 r.2)

    -- with the number of its part
    pub number_right : (bad : BadLine) → t ≡ Refused bad → bad.number ≡ cond (eqb bad.column 1) 14 (cond (eqb bad.column 2) 15 16)
    number_right bad e = subst Numbered (sym as_stages ∙ e) (label_cases Numbered (λ kind a. tt) tt refl refl (λ k h. address_number k h) line)
