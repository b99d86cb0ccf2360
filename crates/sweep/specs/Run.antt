-- What the run over a reader leaves. A read of standard input says nothing of the bytes that it puts, so a statement is over those that it gave;
-- where a reader's bytes are known, another is over those. Assumes nothing.
use Rattle.std.specs.Prelude.{ℕ, ◌≤◌, ◌<◌, ◌≡◌, Bool, true, false, cond, List, [], ◌∷◌, length, take, IfOk, IfSome}
use Rattle.std.specs.Io.KnownBytes.{Consumes, IsAtEnd}
use Rattle.std.specs.declared.option.Option.{Option}
use Rattle.std.specs.declared.result.Result.{Result}
use Rattle.feeding.specs.declared.Feeding.{Feeding}
use Rattle.feeding.specs.Lines.{lf, joined}
use Rattle.feeding.specs.Machine.{fed, finished}
use Rattle.feeding.specs.Feeding.{by_lines, start, held_by}
use Rattle.printing.specs.Printed.{output_of}
use Rattle.printing.specs.Output.{printed_for}
use Rattle.sweep.specs.declared.input.More.{More}

-- the first `len` bytes of the chunk came next; at the end of the input, the LF that a line which has begun lacks
pub record Came (begun : Bool) (chunk : List ℕ) (r : More) : Type 0 where
  pub fits : r.len ≤ length chunk
  pub some : r.last ≡ false → 0 < r.len
  pub end : r.last ≡ true → take r.len chunk ≡ cond begun (lf ∷ []) []

-- slices were read: what their bytes and their end leave, and that it prints as the definition from bytes to bytes says
pub record Answered (st ct : List ℕ) (f : Feeding) (st' ct' : List ℕ) : Type 0 where
  pub slices : List (List ℕ)
  pub is : held_by f st' ct' ≡ finished by_lines (fed by_lines (held_by start st ct) (joined slices))
  pub prints : output_of f.answer f.reading ct' ≡ printed_for st ct (joined slices)

-- THE RUN: unless a read failed
abbrev pub Ran : {E : Type 0} → List ℕ → List ℕ → Result Feeding E → List ℕ → List ℕ → Type 0
Ran st ct r st' ct' = IfOk r (λ f. Answered st ct f st' ct')

-- ---- where the bytes that the reader has left are known

-- what came was taken from their front; at the end of the input none was left
pub record Drawn (known known' : Option (List ℕ)) (chunk : List ℕ) (r : More) : Type 0 where
  pub taken : r.last ≡ false → Consumes known known' (take r.len chunk)
  pub none_left : r.last ≡ true → IsAtEnd known

-- what these bytes and their end leave, and that it prints as the definition from bytes to bytes says
pub record AnsweredOver (st ct bytes : List ℕ) (f : Feeding) (st' ct' : List ℕ) : Type 0 where
  pub is : held_by f st' ct' ≡ finished by_lines (fed by_lines (held_by start st ct) bytes)
  pub prints : output_of f.answer f.reading ct' ≡ printed_for st ct bytes

-- THE RUN OVER ALL OF THEM: unless a read failed
abbrev pub RanOver : {E : Type 0} → Option (List ℕ) → List ℕ → List ℕ → Result Feeding E → List ℕ → List ℕ → Type 0
RanOver known st ct r st' ct' = IfOk r (λ f. IfSome known (λ bytes. AnsweredOver st ct bytes f st' ct'))
