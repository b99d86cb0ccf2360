-- The trace. One line: a step that is done takes what the line gives, and counts it where it is skipped. Then every sequence of lines.
-- Assumes nothing.
use Prim.Native.Nat.{ℕ, ◌+◌, ◌≤◌, ◌<◌}
use mathlib.Core.Path.{◌≡◌, refl, sym, ap, ap₂, ◌∙◌, subst}
use mathlib.Core.Bool.{cond, true≢false}
use mathlib.Core.List.{List, [], ◌++◌, append-nil, ◌∷◌, append_assoc}
use native.Mathlib.Omega.{arith}
use lib.Dec.{eqb}
use lib.ListN.{length, length-append}
use borrow.Author.Tests.{leb-true, leb-false, eqb-true, eqb-false}
use Rattle.lists.specs.Runs.{after}
use Rattle.lists.proofs.Cases.{picked, both_picked}
use Rattle.lists.proofs.TestLaws.{settled_done, settled_not}
use Rattle.cache.specs.Cache.{Given}
use Rattle.units.specs.Refusals.{too_many_lines}
use Rattle.order.specs.declared.Order.{Order}
use Rattle.taking.specs.World.{World}
use Rattle.taking.specs.Taking.{taken}
use Rattle.calls.proofs.HistoryLaws.{History, history_taken}
use Rattle.calls.proofs.AnswerLaws.{answer_told}
use Rattle.lines.specs.declared.Kinds.{Kinds}
use Rattle.reading.specs.Meaning.{Meaning, gives, skips, fails, meaning_of, tallied, column_or, given_by, given_in}
use Rattle.reading.specs.Reading.{Step, Desk, world_of, Outcome, outcome, stays}
use Rattle.reading.specs.Step.{line_answer, followed, refused_at, trace_step, in_trace, lines_most, is_too_many, counted, step_of}
use Rattle.runs.specs.Input.{meant_in, run_from}
use Rattle.runs.specs.Endings.{trace_answer, Ending, ends_at, ending_of, line_ending, trace_ending}
use Rattle.runs.proofs.MeaningLaws.{meaning_cases, given_more, tally_more, told_by, told_more, told_given, Stands}
use Rattle.runs.proofs.NumberLaws.{step_reported}

-- what is on a desk
abbrev pub order_on : Desk → Order
order_on d = d.reading.opened.order

abbrev pub kinds_on : Desk → Kinds
kinds_on d = d.reading.head.kinds

-- a line that is done, and comes to m
record Followed (d : Desk) (past : List Meaning) (m : Meaning) (o : Outcome) : Type 0 where
  order : order_on o.left ≡ order_on d
  kinds : kinds_on o.left ≡ kinds_on d
  stands : Stands o.left (past ++ (m ∷ []))

-- the line ends so, where it is refused
record Traced (d : Desk) (past : List Meaning) (m : Meaning) (e : Ending) (o : Outcome) : Type 0 where
  answer : o.answer ≡ e.answer
  refused : (o.answer ≡ 0 → ⊥) → ending_of o ≡ e
  next : o.answer ≡ 0 → Followed d past m o

module _ (d : Desk) (past : List Meaning) (h : Stands d past) where
  abbrev o : Order
  o = order_on d

  abbrev w : World
  w = world_of d

  same_order : (m : Meaning) → (after taken w (given_by m)).state.order ≡ o
  same_order (gives g) = refl
  same_order skips = refl
  same_order (fails bad) = refl

  -- the ending of a line that is read
  abbrev ending : Meaning → Ending
  ending m = ends_at (trace_answer o (given_in past) m) d.reading.lines (column_or 0 m)

  -- what the answer must be, and, where it is done, that what the line gives was taken and the line is told
  traced : (m : Meaning) → length past < lines_most → line_answer w m ≡ trace_answer o (given_in past) m
      → (line_answer w m ≡ 0 → History (after taken w (given_by m)) (given_in past ++ given_by m) × (told_by m ≡ 1))
      → Traced d past m (ending m) (trace_step d m)
  traced m fits same done = record {
    answer = same;
    refused = λ ne.
        ap (λ (x : Desk). ending_of (outcome (line_answer w m) x)) (settled_not (line_answer w m) (followed d m) (refused_at d m) ne)
        ∙ ap₂ (λ (n c : ℕ). ends_at n d.reading.lines (column_or c m)) same h.clear;
    next = λ e.
        subst (λ (x : Desk). Followed d past m (outcome (line_answer w m) x)) (sym (settled_done (line_answer w m) (followed d m) (refused_at d m) e))
        (record {
          order = same_order m;
          kinds = refl;
          stands = record {
            trace = h.trace;
            history = subst (History (after taken w (given_by m))) (sym (given_more past m)) (done e).0;
            tally = ap (tallied m) h.tally ∙ tally_more past m fits;
            clear = h.clear;
            told = told_more past m (done e).1 h.told;
          };
        });
  }

  failed : length past < lines_most → (n c : ℕ) → (n ≡ 0 → ⊥)
      → let m = fails (record { number = n; column = c }) in Traced d past m (ending m) (trace_step d m)
  failed fits n c ne = traced (fails (record { number = n; column = c })) fits refl (λ e. absurd (ne e))

  line_traced : (line : List ℕ) → length past < lines_most
      → let m = meaning_of (kinds_on d) line in Traced d past m (ending m) (trace_step d m)
  line_traced line fits =
      meaning_cases (λ (m : Meaning). Traced d past m (ending m) (trace_step d m))
      (λ g. traced (gives g) fits (answer_told w (given_in past) h.history g)
      (λ e. (history_taken w (given_in past) h.history g e, told_given g)))
      (traced skips fits refl (λ e. (subst (History w) (sym (append-nil (given_in past))) h.history, refl)))
      (λ c. (
        failed fits 14 c (λ e. omega arith),
        failed fits 15 c (λ e. omega arith),
        failed fits 16 c (λ e. omega arith),
        failed fits 17 c (λ e. omega arith),
      ))
      (kinds_on d) line

step_traced : (d : Desk) (line : List ℕ) (past : List Meaning) → Stands d past → length past ≤ d.reading.lines → d.reading.lines ≤ lines_most
    → let m = meaning_of (kinds_on d) line in
    Traced (counted d) past m (line_ending (order_on d) (given_in past) d.reading.lines m) (step_of d line)
step_traced d line past h few lines-few =
    let m = meaning_of (kinds_on d) line in
    let now : Stands (counted d) past = record { trace = h.trace; history = h.history; tally = h.tally; clear = refl; told = h.told } in
    both_picked (Traced (counted d) past m) (is_too_many d.reading)
    (λ e.
    let many = leb-true lines_most d.reading.lines e in
    record { answer = refl; refused = λ ne. ap (λ (n : ℕ). ends_at too_many_lines n 0) (omega arith); next = λ z. absurd (omega arith) })
    (λ e. picked (Traced (counted d) past m (ending (counted d) past now m)) (in_trace d.reading)
    (λ f. let below = leb-false lines_most d.reading.lines e in line_traced (counted d) past now line (omega arith))
    (λ f. absurd (true≢false (sym h.trace ∙ f))))

-- ---- every sequence of lines

-- the run ends so; where it is done, the order and the kinds are still these, and the lines of the trace come to l
pub record Ends (order : Order) (kinds : Kinds) (l : List Meaning) (d : Desk) : Type 0 where
  pub same_order : order_on d ≡ order
  pub same_kinds : kinds_on d ≡ kinds
  pub stands : Stands d l

pub record Follows (order : Order) (kinds : Kinds) (l : List Meaning) (e : Ending) (o : Outcome) : Type 0 where
  pub ends : ending_of o ≡ e
  pub end : o.answer ≡ 0 → Ends order kinds l o.left

follows_same : {order order' : Order} {kinds kinds' : Kinds} {l l' : List Meaning} {e e' : Ending} {o : Outcome}
    → order ≡ order' → kinds ≡ kinds' → l ≡ l' → e ≡ e' → Follows order kinds l e o → Follows order' kinds' l' e' o
follows_same {o = o} p q r t f = record {
  ends = f.ends ∙ t;
  end = λ z.
      let e = f.end z in
      record { same_order = e.same_order ∙ p; same_kinds = e.same_kinds ∙ q; stands = subst (Stands o.left) r e.stands };
}

pub run_follows : (lines : List (List ℕ)) (d : Desk) (past : List Meaning) → Stands d past
    → length past ≤ d.reading.lines → d.reading.lines ≤ lines_most
    → let l = meant_in (kinds_on d) lines in
    Follows (order_on d) (kinds_on d) (past ++ l) (trace_ending (order_on d) (given_in past) d.reading.lines l) (run_from d lines)
unfolding run_from meant_in trace_ending
run_follows [] d past h few lines-few =
    picked (λ (s : Step). Follows (order_on d) (kinds_on d) (past ++ []) (ends_at 0 d.reading.lines 0) (stays s d)) (in_trace d.reading)
    (λ e. record {
      ends = ap (ends_at 0 d.reading.lines) h.clear;
      end = λ z. record { same_order = refl; same_kinds = refl; stands = subst (Stands d) (sym (append-nil past)) h };
    })
    (λ e. absurd (true≢false (sym h.trace ∙ e)))
run_follows (line ∷ more) d past h few lines-few =
    let o = step_of d line in
    let m = meaning_of (kinds_on d) line in
    let l = meant_in (kinds_on d) more in
    let s = step_traced d line past h few lines-few in
    let ending = line_ending (order_on d) (given_in past) d.reading.lines m in
    let number = (step_reported d line).number lines-few in
    let rest = run_follows more o.left (past ++ (m ∷ [])) in
    subst
    (λ (n : ℕ). Follows (order_on d) (kinds_on d) (past ++ (m ∷ l))
    (cond (eqb n 0) (trace_ending (order_on d) (given_in past ++ given_by m) (d.reading.lines + 1) l) ending)
    (run_from d (line ∷ more)))
    s.answer
    (both_picked (Follows (order_on d) (kinds_on d) (past ++ (m ∷ l))) (eqb o.answer 0)
    (λ e.
    let done = eqb-true o.answer 0 e in
    let f = s.next done in
    let below = (step_reported d line).room done in
    follows_same f.order f.kinds
    (ap (λ (k : Kinds). past ++ (m ∷ []) ++ meant_in k more) f.kinds ∙ append_assoc past (m ∷ []) l)
    (ap₂ (λ (x : Order) (k : Kinds). trace_ending x (given_in (past ++ (m ∷ []))) o.left.reading.lines (meant_in k more)) f.order f.kinds
    ∙ ap₂ (λ (given : List Given) (n : ℕ). trace_ending (order_on d) given n l) (given_more past m) number)
    (rest f.stands (omega (arith, length-append past (m ∷ []))) (omega arith)))
    (λ e. record { ends = s.refused (eqb-false o.answer 0 e); end = λ z. absurd (eqb-false o.answer 0 e z) }))
