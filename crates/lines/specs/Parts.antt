-- What the private functions of the crate answer to the readers of lines. No public promise cites this page.
-- Assumes nothing.
use Rattle.std.specs.Prelude.{ℕ, ◌+◌, ◌≤◌, ◌<◌, ◌≡◌, Bool, false, cond, ◌&&◌, List, ltb, length, drop, get_or, take_while, Option, Some, None}
use Rattle.lines.specs.Bytes.{between, is_blank, is_hex, hex_value}
use Rattle.lines.specs.TraceLine.{in_address}
use Rattle.lines.specs.OrderLine.{is_number, value_of, is_numbered, after}

-- a byte that may stand as a label
abbrev pub is_label : ℕ → Bool
is_label c = between "0" "4" c

-- how many blanks stand at the front
abbrev pub blanks : List ℕ → ℕ
blanks bytes = length (take_while (λ b. is_blank b) bytes)

-- the value of a hex digit
abbrev pub hex_digit : ℕ → Option ℕ
hex_digit c = cond (is_hex c) (Some (hex_value c)) None

-- `count` digits were read at the front: an address goes on after them with their value, and not with a digit that may still come
pub record HexDigits (bytes : List ℕ) (value count : ℕ) : Type 0 where
  pub within : count ≤ length bytes
  pub goes_on : (label k : ℕ) → in_address label 0 0 k bytes ≡ in_address label count value (k + count) (drop count bytes)
  pub ended : count < length bytes → is_hex (get_or bytes count 0) && ltb count 8 ≡ false

-- the number that digits stand for
abbrev pub decimal_number : List ℕ → Option ℕ
decimal_number digits = cond (is_number digits) (Some (value_of digits)) None

-- the number that follows the name
abbrev pub number_after : List ℕ → List ℕ → Option ℕ
number_after name line = cond (is_numbered name line) (Some (value_of (after name line))) None
