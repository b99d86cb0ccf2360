-- What a line of the order reads as (SCOPE, "Program, order lines and din lines"): exactly a name, `=` and a number;
-- `kinds=` and one of its three words; or `begin=din`. Every other line is refused with 10: no blank, CR, sign or capital is taken.
-- Which line may stand where is not said here. The line is given without its LF. Assumes nothing.
use Rattle.std.specs.Prelude.{ℕ, ◌+◌, ◌-◌, ◌*◌, min, Bool, true, false, cond, not, ◌&&◌, ◌||◌, List, [], ◌∷◌, eqb, leb, ltb, length, drop}
use Prim.Native.Char.{code}
use Rattle.lists.specs.Members.{mem}
use Rattle.units.specs.Refusals.{bad_order_line}
use Rattle.lines.specs.Bytes.{text, is_decimal, longest}
use Rattle.lines.specs.TraceLine.{label_of}
use Rattle.lines.specs.declared.Kind.{Kind}
use Rattle.lines.specs.declared.Kinds.{Kinds}
use Rattle.lines.specs.declared.Kinds.TheVariants.{All, Fetch, Data}

-- what a line reads as
pub data OrderLine : Type 0 where
  Bmin : ℕ → OrderLine
  Bmax : ℕ → OrderLine
  Smax : ℕ → OrderLine
  Ways : ℕ → OrderLine
  Room : ℕ → OrderLine
  Refs : ℕ → OrderLine
  Counting : Kinds → OrderLine
  Begin : OrderLine
  -- the refusal number
  Refused : ℕ → OrderLine

-- the line starts with these bytes
unfoldable pub starts_with : List ℕ → List ℕ → Bool
starts_with [] line = true
starts_with (c ∷ name) [] = false
starts_with (c ∷ name) (x ∷ line) = eqb x c && starts_with name line

unfoldable pub all_decimal : List ℕ → Bool
all_decimal [] = true
all_decimal (c ∷ rest) = is_decimal c && all_decimal rest

-- 1 to 10 decimal digits without leading zeros (0 itself excepted)
unfoldable pub is_number : List ℕ → Bool
is_number [] = false
is_number (c ∷ rest) = all_decimal (c ∷ rest) && leb (length (c ∷ rest)) 10 && (not (eqb c (code "0")) || eqb (length (c ∷ rest)) 1)

-- the number whose digits so far are v, with these after them
unfoldable pub decimal : ℕ → List ℕ → ℕ
decimal v [] = v
decimal v (c ∷ rest) = decimal (v * 10 + (c - code "0")) rest

-- the value handed on. 32 bits do not hold every number of 10 digits; one above 4,294,967,295 is handed on as that, which is
-- outside every limit of the order as the number itself is, and never as a smaller one
abbrev pub value_of : List ℕ → ℕ
value_of digits = min (decimal 0 digits) 4294967295

-- what follows the name
abbrev pub after : List ℕ → List ℕ → List ℕ
after name line = drop (length name) line

-- the line is the name, then a number
abbrev pub is_numbered : List ℕ → List ℕ → Bool
is_numbered name line = starts_with name line && is_number (after name line)

-- the line is these bytes and no more
abbrev pub is_whole : List ℕ → List ℕ → Bool
is_whole bytes line = eqb (length line) (length bytes) && starts_with bytes line

-- a name and a number, and what such a line reads as
abbrev pub number_lines : List (List ℕ × (ℕ → OrderLine))
number_lines =
    (text "bmin=", Bmin)
    ∷ (text "bmax=", Bmax)
    ∷ (text "smax=", Smax)
    ∷ (text "ways=", Ways)
    ∷ (text "room=", Room)
    ∷ (text "refs=", Refs)
    ∷ []

-- a whole line, and what it reads as
abbrev pub whole_lines : List (List ℕ × OrderLine)
whole_lines =
    (text "kinds=all", Counting All)
    ∷ (text "kinds=fetch", Counting Fetch)
    ∷ (text "kinds=data", Counting Data)
    ∷ (text "begin=din", Begin)
    ∷ []

-- what the line reads as by the first of these that fits it, or else
unfoldable pub numbered : List (List ℕ × (ℕ → OrderLine)) → List ℕ → OrderLine → OrderLine
numbered [] line else = else
numbered (n ∷ more) line else = cond (is_numbered n.0 line) (n.1 (value_of (after n.0 line))) (numbered more line else)

unfoldable pub whole : List (List ℕ × OrderLine) → List ℕ → OrderLine → OrderLine
whole [] line else = else
whole (w ∷ more) line else = cond (is_whole w.0 line) w.1 (whole more line else)

-- one that the line buffer cannot hold is refused; else the cases above, and refused where none fits
unfoldable pub order_line_of : List ℕ → OrderLine
order_line_of line =
    cond (ltb longest (length line)) (Refused bad_order_line)
    (numbered number_lines line (whole whole_lines line (Refused bad_order_line)))

-- the labels that an order counts: all counts 0 to 3, fetch counts 2, data counts 0 and 1
abbrev pub labels_of : Kinds → List ℕ
labels_of All = 0 ∷ 1 ∷ 2 ∷ 3 ∷ []
labels_of Fetch = 2 ∷ []
labels_of Data = 0 ∷ 1 ∷ []

abbrev pub counts_kind : Kinds → Kind → Bool
counts_kind kinds kind = mem (label_of kind) (labels_of kinds)
