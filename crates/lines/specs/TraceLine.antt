-- What a line of the trace reads as (SCOPE, "Program, order lines and din lines"; the Dinero III format din):
-- a label 0 to 4, one or more spaces or tabs, 1 to 8 hex digits, then the end, or a space or tab and a comment of any bytes.
-- Every other line is refused: the number tells the part that is wrong, and the column tells where (Column says what it means). In each stage
-- k is the column of the next byte. The line is given without its LF. Assumes nothing.
use Rattle.std.specs.Prelude.{ℕ, suc, ◌+◌, ◌*◌, Bool, true, false, cond, ◌&&◌, List, [], ◌∷◌, eqb, ltb, length}
use Prim.Native.Char.{code}
use Rattle.units.specs.Refusals.{bad_label, bad_gap, bad_address, too_long}
use Rattle.lines.specs.Bytes.{between, is_blank, is_hex, hex_value, longest, past_longest}
use Rattle.lines.specs.declared.Kind.{Kind}
use Rattle.lines.specs.declared.Kind.TheVariants.{Read, Write, Fetch, Unknown}
use Rattle.units.specs.declared.Addr.{Addr}

-- why a line is refused, and where
pub record BadLine : Type 0 where
  -- the refusal number
  pub number : ℕ
  pub column : ℕ

-- what a line reads as
pub data TraceLine : Type 0 where
  Ref : Kind → Addr → TraceLine
  -- label 4, an escape: well-formed, and no reference
  Escape : TraceLine
  Refused : BadLine → TraceLine

-- refused with a number, at a column
abbrev pub bad_at : ℕ → ℕ → TraceLine
bad_at number column = Refused (record { number = number; column = column })

-- a well-formed line: 0 read, 1 write, 2 fetch, 3 unknown; 4 an escape
abbrev pub labelled : ℕ → ℕ → TraceLine
labelled label address =
    cond (eqb label (code "0")) (Ref Read (record { 0 = address }))
    (cond (eqb label (code "1")) (Ref Write (record { 0 = address }))
    (cond (eqb label (code "2")) (Ref Fetch (record { 0 = address }))
    (cond (eqb label (code "3")) (Ref Unknown (record { 0 = address })) Escape)))

-- after n digits of the address: the end, a blank and a comment, or one more digit where n is below 8
unfoldable pub in_address : ℕ → ℕ → ℕ → ℕ → List ℕ → TraceLine
in_address label n address k [] = labelled label address
in_address label n address k (c ∷ rest) =
    cond (is_blank c) (labelled label address)
    (cond (is_hex c && ltb n 8) (in_address label (suc n) (address * 16 + hex_value c) (k + 1) rest) (bad_at bad_address k))

-- after the first blank of the gap: more blanks, or the first digit of the address
unfoldable pub in_gap : ℕ → ℕ → List ℕ → TraceLine
in_gap label k [] = bad_at bad_address k
in_gap label k (c ∷ rest) =
    cond (is_blank c) (in_gap label (k + 1) rest)
    (cond (is_hex c) (in_address label 1 (hex_value c) (k + 1) rest) (bad_at bad_address k))

-- after the label: a blank
unfoldable pub at_gap : ℕ → List ℕ → TraceLine
at_gap label [] = bad_at bad_gap 2
at_gap label (c ∷ rest) = cond (is_blank c) (in_gap label 3 rest) (bad_at bad_gap 2)

-- at the start: a label
unfoldable pub at_label : List ℕ → TraceLine
at_label [] = bad_at bad_label 1
at_label (c ∷ rest) = cond (between "0" "4" c) (at_gap c rest) (bad_at bad_label 1)

-- not refused
abbrev pub is_read : TraceLine → Bool
is_read (Ref kind a) = true
is_read Escape = true
is_read (Refused bad) = false

-- a good line, its length apart
abbrev pub is_good : List ℕ → Bool
is_good line = is_read (at_label line)

-- the whole line; one that the line buffer cannot hold is refused at the byte that it has no room for, whatever it says
unfoldable pub trace_line_of : List ℕ → TraceLine
trace_line_of line = cond (ltb longest (length line)) (bad_at too_long past_longest) (at_label line)

-- the label of each kind
abbrev pub label_of : Kind → ℕ
label_of Read = 0
label_of Write = 1
label_of Fetch = 2
label_of Unknown = 3
