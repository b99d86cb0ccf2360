-- Bytes fed to a reader of lines, one after the other: a machine that keeps the bytes of the line that has begun, and hands the line over when
-- its LF comes (SCOPE, "Program, order lines and din lines"). Whatever the reader makes of a line is a parameter. Assumes nothing.
use Rattle.std.specs.Prelude.{ℕ, ◌+◌, Bool, cond, List, [], ◌∷◌, eqb, leb, take, set}
use Rattle.lists.specs.Runs.{after}
use Rattle.lines.specs.Bytes.{longest}
use Rattle.feeding.specs.Lines.{lf}

-- a reader of lines with states S
pub record Reader (S : Type 0) : Type 0 where
  -- it takes no further line: one was refused
  pub is_over : S → Bool
  -- one line more is too many
  pub is_many : S → Bool
  -- a line, without its LF
  pub read : S → List ℕ → S
  -- a line that is refused before it ends: it is one too many, or too long
  pub unread : S → S
  -- no line comes any more
  pub ended : S → S

-- the state of the reader, and the line that has begun: its bytes are the first `len` of the line buffer
pub record Held (S : Type 0) : Type 0 where
  pub state : S
  pub len : ℕ
  pub line : List ℕ

abbrev pub held : {S : Type 0} → S → ℕ → List ℕ → Held S
held s n line = record { state = s; len = n; line = line }

abbrev pub line_refused : {S : Type 0} → Reader S → Held S → Held S
line_refused r d = held (r.unread d.state) d.len d.line

abbrev pub line_ends : {S : Type 0} → Reader S → Held S → Held S
line_ends r d = held (r.read d.state (take d.len d.line)) 0 d.line

-- a byte that is no LF: the line buffer has no room for a 256th
abbrev pub byte_taken : {S : Type 0} → Reader S → ℕ → Held S → Held S
byte_taken r b d = cond (leb longest d.len) (line_refused r d) (held d.state (d.len + 1) (set d.line d.len b))

-- THE STEP: after a refusal no byte is looked at; a line too many is refused at its first byte, before it is read
unfoldable pub feed_byte : {S : Type 0} → Reader S → Held S → ℕ → Held S
feed_byte r d b =
    cond (r.is_over d.state) d
    (cond (r.is_many d.state) (line_refused r d) (cond (eqb b lf) (line_ends r d) (byte_taken r b d)))

abbrev pub fed : {S : Type 0} → Reader S → Held S → List ℕ → Held S
fed r d bytes = after (feed_byte r) d bytes

-- the end of the input: a line that has begun ends as if its LF had come
abbrev pub last_line : {S : Type 0} → Reader S → Held S → Held S
last_line r d = cond (eqb d.len 0) d (feed_byte r d lf)

abbrev pub input_ends : {S : Type 0} → Reader S → Held S → Held S
input_ends r d = held (cond (r.is_over d.state) d.state (r.ended d.state)) d.len d.line

abbrev pub finished : {S : Type 0} → Reader S → Held S → Held S
finished r d = input_ends r (last_line r d)

-- the same reader over lines that are whole: it stops at the first that is refused, else at the end
unfoldable pub run_over : {S : Type 0} → Reader S → S → List (List ℕ) → S
run_over r s [] = r.ended s
run_over r s (line ∷ more) = cond (r.is_over (r.read s line)) (r.read s line) (run_over r (r.read s line) more)
