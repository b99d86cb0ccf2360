-- The program's reader, fed bytes: `feed` takes a slice of them and `ended` the end of the input. Assumes nothing.
use Rattle.std.specs.Prelude.{ℕ, ◌≡◌, not, List, eqb, replicate}
use Rattle.lines.specs.Bytes.{longest}
use Rattle.reading.specs.Reading.{desk, Outcome, outcome, stays, start as noLine}
use Rattle.reading.specs.Step.{is_too_many, step_of, long_line, ended}
use Rattle.feeding.specs.Machine.{Reader, Held, held, fed, input_ends}
use Rattle.feeding.specs.declared.Feeding.{Feeding}

-- each line goes to `step`, and one refused before it ends to `long_line`
abbrev pub by_lines : Reader Outcome
by_lines = record {
  is_over = λ o. not (eqb o.answer 0);
  is_many = λ o. is_too_many o.left.reading;
  read = λ o line. step_of o.left line;
  unread = λ o. stays (long_line o.left.reading) o.left;
  ended = λ o. stays (ended o.left.reading) o.left;
}

-- no byte yet, and a line buffer of zeros
abbrev pub start : Feeding
start = record { reading = noLine; answer = 0; len = 0; line = replicate longest 0 }

-- the state and both tables, as the machine holds them
abbrev pub held_by : Feeding → List ℕ → List ℕ → Held Outcome
held_by f st ct = held (outcome f.answer (desk f.reading st ct)) f.len f.line

-- THE CONTRACT of `feed`, and of `ended`, which no table is lent to
abbrev pub Feeds : Feeding → List ℕ → List ℕ → List ℕ → Feeding → List ℕ → List ℕ → Type 0
Feeds f bytes st ct r st' ct' = held_by r st' ct' ≡ fed by_lines (held_by f st ct) bytes

abbrev pub Ends : Feeding → Feeding → Type 0
Ends f r = (st ct : List ℕ) → held_by r st ct ≡ input_ends by_lines (held_by f st ct)
