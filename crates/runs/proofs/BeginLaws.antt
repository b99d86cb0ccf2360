-- The begin line opens the order of the lines before it; then a step on any line before the trace. Assumes nothing.
use Prim.Native.Nat.{ℕ, ◌<◌}
use mathlib.Core.Path.{◌≡◌, refl, sym, ap, ◌∙◌, subst}
use mathlib.Core.Bool.{cond, ◌||◌, true≢false}
use mathlib.Core.List.{List}
use native.Mathlib.Omega.{arith}
use lib.Dec.{eqb}
use lib.ListN.{length}
use borrow.Author.Tests.{eqb-true, leb-true}
use Rattle.lists.proofs.TestLaws.{settled_done}
use Rattle.lists.proofs.Cases.{cases, picked, both_picked}
use Rattle.order.specs.declared.Order.{Order}
use Rattle.taking.specs.World.{World}
use Rattle.taking.specs.Opening.{open_answer, opened}
use Rattle.lines.specs.declared.Kinds.TheVariants.{All, Fetch, Data}
use Rattle.lines.specs.OrderLine.{OrderLine, Bmin, Bmax, Smax, Ways, Room, Refs, Begin, Refused as BadOrder, order_line_of}
use Rattle.lines.proofs.CaseLaws.{order_cases}
use Rattle.reading.specs.declared.Reading.{Reading}
use Rattle.reading.specs.Reading.{kinds_next, begin_next, trace_next, Desk, world_of, Outcome, outcome}
use Rattle.reading.specs.Meaning.{given_in}
use Rattle.reading.specs.Head.{order_of, begun, opening, begin_at, order_step}
use Rattle.reading.specs.Step.{in_trace, lines_most, is_too_many, counted, step_of}
use Rattle.runs.specs.Input.{order_in, kinds_in}
use Rattle.runs.specs.Endings.{order_answer}
use Rattle.runs.proofs.HeaderLaws.{Heading, Begun, Headed, so_far, stage_is, refuses, number_headed, kinds_headed}
use Rattle.calls.proofs.CallLaws.{history_opened}

module _ (d : Desk) (said : List OrderLine) (h : Heading d.reading said) where
  abbrev v : Reading
  v = d.reading

  abbrev w : World
  w = world_of d

  abbrev answer : ℕ
  answer = open_answer (order_of v) w

  -- the world that the opening leads to
  abbrev next : World
  next = opened (order_of v) w

  begins : order_of v ≡ order_in said → v.head.kinds ≡ kinds_in said → Headed d said Begin (open_answer (order_in said) w) (opening d)
  unfolding given_in
  begins order kinds = record {
    answer = ap (λ (o : Order). open_answer o w) order;
    clear = picked (λ (x : Desk). x.reading.column ≡ 0) (eqb answer 0) (λ e. h.clear) (λ e. h.clear);
    going = λ e f. absurd (true≢false f);
    begun = λ e f. subst (λ (x : Desk). Begun said (outcome answer x)) (sym (settled_done answer (begun (order_of v) d) d e)) (record {
      order = order;
      kinds = kinds;
      stands = record {
        trace = refl;
        history = history_opened (order_of v) w next (record { answer = sym e; left = sym (settled_done answer next w e) });
        tally = h.tally;
        clear = h.clear;
        told = refl;
      };
    });
  }

  begin_headed : Headed d said Begin (cond (eqb (length said) kinds_next || eqb (length said) begin_next) (open_answer (order_in said) w) 10) (begin_at d)
  begin_headed =
      subst (λ (m : ℕ). Headed d said Begin (cond (eqb m kinds_next || eqb m begin_next) (open_answer (order_in said) w) 10) (begin_at d))
      (stage_is d said h)
      (both_picked (Headed d said Begin) (eqb v.stage kinds_next || eqb v.stage begin_next)
      (λ e. cases (eqb v.stage kinds_next)
      (λ f.
      let at = eqb-true v.stage kinds_next f in
      let lines = so_far d said h kinds_next at in
      begins (sym (ap order_in lines)) (h.kinds (omega arith) ∙ sym (ap kinds_in lines)))
      (λ f.
      let lines = so_far d said h begin_next (eqb-true v.stage begin_next (simp f at e)) in
      begins (sym (ap order_in lines)) (sym (ap kinds_in lines))))
      (λ e. refuses d said h Begin))

  line_headed : (line : List ℕ) → Headed d said (order_line_of line) (order_answer w said (order_line_of line)) (order_step d (order_line_of line))
  line_headed =
      order_cases (λ (l : OrderLine). Headed d said l (order_answer w said l) (order_step d l)) (
        λ n. number_headed d said h 0 n (Bmin n) (omega arith) refl (λ a b c d e f k. refl),
        (
          λ n. number_headed d said h 1 n (Bmax n) (omega arith) refl (λ a b c d e f k. refl),
          (
            λ n. number_headed d said h 2 n (Smax n) (omega arith) refl (λ a b c d e f k. refl),
            (
              λ n. number_headed d said h 3 n (Ways n) (omega arith) refl (λ a b c d e f k. refl),
              (
                λ n. number_headed d said h 4 n (Room n) (omega arith) refl (λ a b c d e f k. refl),
                (λ n. number_headed d said h 5 n (Refs n) (omega arith) refl (λ a b c d e f k. refl), tt),
              ),
            ),
          ),
        ),
      )
      (kinds_headed d said h All, (kinds_headed d said h Fetch, (kinds_headed d said h Data, (begin_headed, tt))))
      (refuses d said h (BadOrder 10))

pub step_headed : (d : Desk) (line : List ℕ) (said : List OrderLine) → Heading d.reading said → d.reading.lines < lines_most
    → Headed d said (order_line_of line) (order_answer (world_of d) said (order_line_of line)) (step_of d line)
step_headed d line said h few =
    picked Answers (is_too_many d.reading)
    (λ e. let many = leb-true lines_most d.reading.lines e in absurd (omega arith))
    (λ e. picked Answers (in_trace d.reading)
    (λ f. let at = eqb-true d.reading.stage trace_next f in absurd (omega (arith, h.stage)))
    (λ f. as_read (line_headed (counted d) said read line)))
  where
    Answers : Outcome → Type 0
    Answers = Headed d said (order_line_of line) (order_answer (world_of d) said (order_line_of line))

    read : Heading (counted d).reading said
    read = record { stage = h.stage; six = h.six; kinds = h.kinds; reads = h.reads; tally = h.tally; clear = refl }

    as_read : {o : Outcome} → Headed (counted d) said (order_line_of line) (order_answer (world_of d) said (order_line_of line)) o → Answers o
    as_read x = record { answer = x.answer; clear = x.clear; going = x.going; begun = x.begun }
