-- What every step reports: the number of its line. And what a refused one leaves: the state but for that number and the column, and both tables.
-- Assumes nothing.
use Prim.Native.Nat.{ℕ, ◌+◌, ◌≤◌, ◌<◌}
use mathlib.Core.Path.{◌≡◌, refl, sym, ap, ◌∙◌, subst}
use mathlib.Core.Bool.{false, ◌||◌}
use mathlib.Core.List.{List}
use native.Mathlib.Omega.{arith}
use lib.Dec.{eqb}
use borrow.Author.Tests.{eqb-true, leb-true, leb-false}
use Rattle.lists.specs.Tests.{settled}
use Rattle.lists.proofs.Cases.{picked}
use Rattle.taking.specs.Opening.{open_answer}
use Rattle.lines.specs.declared.Kinds.{Kinds}
use Rattle.lines.specs.declared.Kinds.TheVariants.{All, Fetch, Data}
use Rattle.lines.specs.OrderLine.{OrderLine, order_line_of}
use Rattle.lines.proofs.CaseLaws.{order_cases}
use Rattle.reading.specs.declared.Reading.{Reading}
use Rattle.reading.specs.Reading.{Step, kinds_next, begin_next, at_line}
use Rattle.reading.specs.Reading.{Desk, world_of, with_reading, Outcome, outcome, answered, stays}
use Rattle.reading.specs.Meaning.{Meaning, meaning_of, column_or}
use Rattle.reading.specs.Head.{number_at, kinds_at, order_of, begun, begin_at, order_step}
use Rattle.reading.specs.Step.{line_answer, followed, trace_step, in_trace, lines_most, is_too_many, counted, step_of, Steps}

-- a line that was counted and is read
record Numbered (d : Desk) (o : Outcome) : Type 0 where
  number : o.left.reading.lines ≡ d.reading.lines
  kept : (o.answer ≡ 0 → ⊥) → o ≡ stays (answered o.answer (at_line d.reading.lines o.left.reading.column d.reading)) d

module _ (d : Desk) where
  refuses : (n : ℕ) → Numbered d (stays (answered n d.reading) d)
  refuses n = record { number = refl; kept = λ ne. refl }

  goes_on : (next : Reading) → next.lines ≡ d.reading.lines → Numbered d (stays (answered 0 next) d)
  goes_on next same = record { number = same; kept = λ ne. absurd (ne refl) }

  -- what the answer decides: refused, nothing changes but the column
  decided : (n c : ℕ) (new : Desk) → new.reading.lines ≡ d.reading.lines
      → Numbered d (outcome n (settled n new (with_reading (at_line d.reading.lines c d.reading) d)))
  decided n c new same =
      picked (λ (x : Desk). Numbered d (outcome n x)) (eqb n 0)
      (λ e. record { number = same; kept = λ ne. absurd (ne (eqb-true n 0 e)) })
      (λ e. record { number = refl; kept = λ ne. refl })

  number_numbered : (place n : ℕ) → Numbered d (stays (number_at place n d.reading) d)
  number_numbered place n =
      picked (λ (s : Step). Numbered d (stays s d)) (eqb d.reading.stage place) (λ e. goes_on _ refl) (λ e. refuses 10)

  kinds_numbered : (k : Kinds) → Numbered d (stays (kinds_at k d.reading) d)
  kinds_numbered k = picked (λ (s : Step). Numbered d (stays s d)) (eqb d.reading.stage kinds_next) (λ e. goes_on _ refl) (λ e. refuses 10)

  begin_numbered : Numbered d (begin_at d)
  begin_numbered =
      picked (Numbered d) (eqb d.reading.stage kinds_next || eqb d.reading.stage begin_next)
      (λ e. decided (open_answer (order_of d.reading) (world_of d)) d.reading.column (begun (order_of d.reading) d) refl)
      (λ e. refuses 10)

  order_numbered : (line : List ℕ) → Numbered d (order_step d (order_line_of line))
  order_numbered =
      order_cases (λ (l : OrderLine). Numbered d (order_step d l))
      (number_numbered 0, (number_numbered 1, (number_numbered 2, (number_numbered 3, (number_numbered 4, (number_numbered 5, tt))))))
      (kinds_numbered All, (kinds_numbered Fetch, (kinds_numbered Data, (begin_numbered, tt))))
      (refuses 10)

  trace_numbered : (m : Meaning) → Numbered d (trace_step d m)
  trace_numbered m = decided (line_answer (world_of d) m) (column_or d.reading.column m) (followed d m) refl

-- a step: the line's number is one more than were read before, and there is a number left for a line that is done
pub record Reported (d : Desk) (o : Outcome) : Type 0 where
  pub number : d.reading.lines ≤ lines_most → o.left.reading.lines ≡ d.reading.lines + 1
  pub room : o.answer ≡ 0 → d.reading.lines < lines_most
  pub kept : (o.answer ≡ 0 → ⊥)
      → o ≡ stays (answered o.answer (at_line o.left.reading.lines o.left.reading.column d.reading)) d

pub step_reported : (d : Desk) (line : List ℕ) → Reported d (step_of d line)
step_reported d line =
    picked (Reported d) (is_too_many d.reading)
    (λ e.
    let many = leb-true lines_most d.reading.lines e in
    record { number = λ h. omega arith; room = λ z. absurd (omega arith); kept = λ ne. refl })
    (λ e. picked (Reported d) (in_trace d.reading)
    (λ f. let m = meaning_of d.reading.head.kinds line in read e (trace_step (counted d) m) (trace_numbered (counted d) m))
    (λ f. read e (order_step (counted d) (order_line_of line)) (order_numbered (counted d) line)))
  where
    read : is_too_many d.reading ≡ false → (o : Outcome) → Numbered (counted d) o → Reported d o
    read e o n =
        let below = leb-false lines_most d.reading.lines e in
        record {
          number = λ h. n.number;
          room = λ z. below;
          kept = λ ne.
              n.kept ne ∙ ap (λ (l : ℕ). stays (answered o.answer (at_line l o.left.reading.column d.reading)) d) (sym n.number);
        }

-- a line that is refused leaves all but its number and column
pub refused_line : (d : Desk) (line : List ℕ) (n : ℕ) (d' : Desk) → Steps d line n d' → (n ≡ 0 → ⊥)
    → d' ≡ with_reading (at_line d'.reading.lines d'.reading.column d.reading) d
refused_line d line n d' c ne = ap (λ (o : Outcome). o.left) ((subst (Reported d) (sym c) (step_reported d line)).kept ne)
