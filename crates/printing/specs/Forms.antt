-- A printed line as a form that is filled in: each mark stands for the next number. Private functions speak of it. Assumes nothing.
use Rattle.std.specs.Prelude.{ℕ, ◌+◌, ◌≡◌, cond, List, [], ◌∷◌, ◌++◌, eqb, leb, length, get_or, drop}
use Prim.Native.Char.{code}
use Rattle.std.proofs.lemmas.List.Edits.{sets}
use Rattle.io.specs.Counts.{IsPrefixLen}
use Rattle.printing.specs.Printed.{decimal_of}

abbrev pub mark : ℕ
mark = code "#"

-- what one byte of the form becomes, and the numbers that are left then; where they are used up, 0
abbrev pub filled_byte : ℕ → List ℕ → List ℕ
filled_byte c numbers = cond (eqb c mark) (decimal_of (get_or numbers 0 0)) (c ∷ [])

abbrev pub numbers_left : ℕ → List ℕ → List ℕ
numbers_left c numbers = cond (eqb c mark) (drop 1 numbers) numbers

-- (one call of itself in each clause: a definition with two computes for ever on a form of 27 bytes)
unfoldable pub filled : List ℕ → List ℕ → List ℕ
filled [] numbers = []
filled (c ∷ form) numbers = filled_byte c numbers ++ filled form (numbers_left c numbers)

-- how many bytes it has at most
unfoldable pub most : List ℕ → ℕ
most [] = 0
most (c ∷ form) = cond (eqb c mark) 20 1 + most form

-- the bytes stand in the buffer from `at` on, the rest is as it was, and r is the place after them
pub record Puts (bytes : List ℕ) (at : ℕ) (out : List ℕ) (r : ℕ) (out' : List ℕ) : Type 0 where
  pub end : r ≡ at + length bytes
  pub written : out' ≡ sets out at bytes

-- room for the longest form: with numbers of 20 digits the head needs 113 bytes, and a line of the table 97
abbrev pub line_most : ℕ
line_most = 128

-- THE CONTRACT of a function that puts a line: nothing where the buffer has no room for the longest
pub record Prints (bytes out : List ℕ) (r : ℕ) (out' : List ℕ) : Type 0 where
  pub puts : Puts (cond (leb line_most (length out)) bytes []) 0 out r out'
  pub counts : IsPrefixLen r out'
