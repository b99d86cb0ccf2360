-- Block sizes in words and in bytes (SCOPE, "The cache being counted"; document 000 counts in words of 8 bytes).
-- Assumes nothing.
use Rattle.std.specs.Prelude.{ℕ, ◌+◌, min}

-- 2^n words of 8 bytes are 2^(n + 3) bytes; an exponent that 32 bits cannot hold is the largest they can, as far outside every limit
abbrev pub bytes_of : ℕ → ℕ
bytes_of n = min (n + 3) 4294967295
