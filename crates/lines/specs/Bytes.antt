-- A line is a list of bytes. Here bytes are told by the characters that they stand for.
-- Assumes nothing.
use Rattle.std.specs.Prelude.{ℕ, ◌+◌, ◌-◌, Bool, cond, ◌&&◌, ◌||◌, List, [], ◌∷◌, leb, eqb}
use Prim.Native.Char.{Char, code}
use Prim.Native.String.{String, [] as none, ◌∷◌ as before}

-- the bytes of a text in quotes; all such texts here are ASCII, one byte to a character
abbrev pub text : String → List ℕ
text none = []
text (before c s) = code c ∷ text s

-- a byte from the first character to the last
abbrev pub between : Char → Char → ℕ → Bool
between first last c = leb (code first) c && leb c (code last)

-- a space or a tab, and nothing else
abbrev pub is_blank : ℕ → Bool
is_blank c = eqb c (code " ") || eqb c (code "\t")

abbrev pub is_decimal : ℕ → Bool
is_decimal c = between "0" "9" c

-- a hex digit of either case
abbrev pub is_hex : ℕ → Bool
is_hex c = is_decimal c || between "a" "f" c || between "A" "F" c

-- the value of a hex digit
abbrev pub hex_value : ℕ → ℕ
hex_value c = cond (is_decimal c) (c - code "0") (cond (between "a" "f" c) (c - code "a" + 10) (c - code "A" + 10))

-- one line buffer serves both parts: no line is longer, its LF not counted
abbrev pub longest : ℕ
longest = 255

-- the column of the first byte that it has no room for
abbrev pub past_longest : ℕ
past_longest = 256
