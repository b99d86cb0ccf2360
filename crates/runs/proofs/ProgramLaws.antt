-- Every sequence of lines, from the start: the input ends as its lines call for, and where it is done the misses given are those of the
-- references in its lines. Assumes nothing.
use Prim.Native.Nat.{ℕ, ◌+◌, ◌≤◌}
use mathlib.Core.Path.{◌≡◌, refl, sym, ap, ap₂, ◌∙◌, subst}
use mathlib.Core.Bool.{true, false, cond}
use mathlib.Core.List.{List, [], ◌∷◌, ◌++◌, append_assoc, append-nil}
use native.Mathlib.Omega.{arith}
use lib.Dec.{eqb}
use lib.ListN.{length, length-append}
use borrow.Author.Tests.{eqb-true, eqb-false}
use Rattle.lists.proofs.Cases.{picked, both_picked}
use Rattle.cache.specs.Cache.{referred, misses_over}
use Rattle.lists.specs.Sums.{total}
use Rattle.lists.specs.Tests.{All≤}
use Rattle.taking.specs.World.{World}
use Rattle.taking.specs.Opening.{unopened}
use Rattle.order.specs.declared.Order.{Order}
use Rattle.order.specs.Limits.{limits}
use Rattle.taking.specs.Questions.{Counted, has, misses_of}
use Rattle.lines.specs.declared.Kinds.{Kinds}
use Rattle.lines.specs.OrderLine.{OrderLine, order_line_of}
use Rattle.reading.specs.declared.Tally.{Tally}
use Rattle.reading.specs.Reading.{Step, trace_next, start, Desk, desk, world_of, Outcome, stays}
use Rattle.reading.specs.Meaning.{given_in, tallied_in}
use Rattle.reading.specs.Step.{in_trace, lines_most, step_of}
use Rattle.runs.specs.Input.{Runs, run_from, is_begin, header_of, trace_of, order_in, kinds_in, meant_in, meant_of, given_of}
use Rattle.runs.specs.Endings.{Ending, ends_at, ending_of, trace_ending, input_ending}
use Rattle.runs.proofs.InputLaws.{run_determined}
use Rattle.calls.proofs.AnswerLaws.{count_is}
use Rattle.calls.proofs.QuestionLaws.{misses_are}
use Rattle.runs.proofs.MeaningLaws.{Stands, told_in_all, meant_length, tally_none}
use Rattle.runs.proofs.NumberLaws.{step_reported}
use Rattle.runs.proofs.HeaderLaws.{Heading, Begun, few_said}
use Rattle.runs.proofs.BeginLaws.{step_headed}
use Rattle.runs.proofs.TraceLaws.{order_on, kinds_on, run_follows}

-- ---- where the lines before them read as `said`

record Serves (said : List OrderLine) (lines : List (List ℕ)) (o : Outcome) : Type 0 where
  order : order_on o.left ≡ order_in (said ++ header_of lines)
  stands : Stands o.left (meant_in (kinds_in (said ++ header_of lines)) (trace_of lines))

record Leads (said : List OrderLine) (lines : List (List ℕ)) (e : Ending) (o : Outcome) : Type 0 where
  ends : ending_of o ≡ e
  end : o.answer ≡ 0 → Serves said lines o

module _ (line : List ℕ) (more : List (List ℕ)) (said : List OrderLine) (o : Outcome) where
  -- after the begin line
  begins : is_begin (order_line_of line) ≡ true → Begun said o → o.left.reading.lines ≡ length said + 1 → o.left.reading.lines ≤ lines_most
      → Leads said (line ∷ more) (trace_ending (order_in said) [] (length said + 1) (meant_in (kinds_in said) more)) (run_from o.left more)
  unfolding header_of trace_of given_in
  begins b g number few =
      let f = run_follows more o.left [] g.stands (omega arith) few in
      let n = o.left.reading.lines in
      let here = trace_ending (order_in said) [] (length said + 1) (meant_in (kinds_in said) more) in
      let same : trace_ending (order_on o.left) [] n (meant_in (kinds_on o.left) more) ≡ here =
      ap₂ (λ (x : Order) (k : Kinds). trace_ending x [] n (meant_in k more)) g.order g.kinds
      ∙ ap (λ (n : ℕ). trace_ending (order_in said) [] n (meant_in (kinds_in said) more)) number in
      record {
        ends = f.ends ∙ same;
        end = λ z.
            let e = f.end z in
            record {
              order = rw (b, append-nil said) (e.same_order ∙ g.order);
              stands = rw (b, append-nil said, ← g.kinds) e.stands;
            };
      }

  -- after any other
  goes : is_begin (order_line_of line) ≡ false → (e : Ending) → Leads (said ++ (order_line_of line ∷ [])) more e o → Leads said (line ∷ more) e o
  unfolding header_of trace_of
  goes b x f = record {
    ends = f.ends;
    end = λ z.
        let e = f.end z in
        record {
          order = rw (b, ← append_assoc said (order_line_of line ∷ []) (header_of more)) e.order;
          stands = rw (b, ← append_assoc said (order_line_of line ∷ []) (header_of more)) e.stands;
        };
  }

run_leads : (lines : List (List ℕ)) (d : Desk) (said : List OrderLine) → Heading d.reading said → d.reading.lines ≡ length said
    → Leads said lines (input_ending (world_of d) said lines) (run_from d lines)
unfolding run_from input_ending
run_leads [] d said h counted =
    let few = few_said d said h in
    picked (λ (s : Step). Leads said [] (ends_at 10 (length said + 1) 0) (stays s d)) (in_trace d.reading)
    (λ e. let at = eqb-true d.reading.stage trace_next e in absurd (omega (arith, h.stage)))
    (λ e. record { ends = ap (λ (n : ℕ). ends_at 10 n 0) (omega arith); end = λ z. absurd (omega arith) })
run_leads (line ∷ more) d said h counted =
    let o = step_of d line in
    let l = order_line_of line in
    let few = few_said d said h in
    let s = step_headed d line said h (omega arith) in
    let number = (step_reported d line).number (omega arith) in
    let trace = trace_ending (order_in said) [] (length said + 1) (meant_in (kinds_in said) more) in
    let then = input_ending (world_of d) (said ++ (l ∷ [])) more in
    let rest = run_leads more o.left (said ++ (l ∷ [])) in
    subst
    (λ (n : ℕ). Leads said (line ∷ more)
    (cond (eqb n 0) (cond (is_begin l) trace then) (ends_at n (length said + 1) 0))
    (run_from d (line ∷ more)))
    s.answer
    (both_picked (Leads said (line ∷ more)) (eqb o.answer 0)
    (λ e.
    let done = eqb-true o.answer 0 e in
    picked (λ (x : Ending). Leads said (line ∷ more) x (run_from o.left more)) (is_begin l)
    (λ b. begins line more said o b (s.begun done b) (omega arith) (omega arith))
    (λ b.
    let g = s.going done b in
    goes line more said (run_from o.left more) b then
    (subst (λ (x : Ending). Leads (said ++ (l ∷ [])) more x (run_from o.left more))
    (ap (λ (w : World). input_ending w (said ++ (l ∷ [])) more) g.1)
    (rest g.0 (omega (arith, length-append said (l ∷ [])))))))
    (λ e. record { ends = ap₂ (ends_at o.answer) (omega arith) s.clear; end = λ z. absurd (eqb-false o.answer 0 e z) }))

-- ---- from the start

starts : Heading start []
starts = record { stage = omega arith; six = refl; kinds = λ h. refl; reads = refl; tally = tally_none; clear = refl }

-- of any run within the contracts
module _ (st ct : List ℕ) (lines : List (List ℕ)) (o : Outcome) (run : Runs (desk start st ct) lines o) where
  leads : Leads [] lines (input_ending (unopened st ct) [] lines) o
  leads =
      subst (Leads [] lines (input_ending (unopened st ct) [] lines)) (sym (run_determined run)) (run_leads lines (desk start st ct) [] starts refl)

  -- the answer, and the line and the column that it is reported at, are those that the lines alone call for
  pub program_ends : ending_of o ≡ input_ending (unopened st ct) [] lines
  program_ends = leads.ends

  module _ (done : o.answer ≡ 0) where
    -- the order opened is that of the lines before the begin line
    pub program_order : o.left.reading.opened.order ≡ order_in (header_of lines)
    program_order = (leads.end done).order

    -- which is within its limits
    pub program_limits : All≤ (limits o.left.reading.opened.order)
    program_limits = (leads.end done).stands.history.fitted.fit.numbers

    -- the misses given for each cache of that order are those of that one cache over what the lines give
    pub program_misses : (b s w : ℕ) → has (order_in (header_of lines)) b s w ≡ true
        → (q : Counted) → q ≡ misses_of o.left.reading.opened o.left.counts b s w
        → (q.answer ≡ 0) × (q.misses ≡ misses_over b s w (given_of lines))
    program_misses b s w h q e =
        misses_are (world_of o.left) (given_of lines) (leads.end done).stands.history b s w
        (subst (λ (x : Order). has x b s w ≡ true) (sym program_order) h) q e

    -- `refs=` is how many references they are, and the other counts are the tally of the lines
    pub program_refs : o.left.reading.opened.taken ≡ total referred (given_of lines)
    program_refs = count_is (world_of o.left) (given_of lines) (leads.end done).stands.history

    pub program_tally : o.left.reading.tally ≡ tallied_in (meant_of lines)
    program_tally = (leads.end done).stands.tally

    -- the references are no more than the order allows
    pub program_ceiling : o.left.reading.opened.taken ≤ o.left.reading.opened.order.refs
    program_ceiling = (leads.end done).stands.history.fitted.fit.ceiling

    -- the counts add up to the lines of the trace
    pub program_lines : (let r = o.left.reading in r.opened.taken + r.tally.skipped + r.tally.flushes) ≡ length (trace_of lines)
    program_lines =
        ap₂ (λ (refs : ℕ) (t : Tally). refs + t.skipped + t.flushes) program_refs program_tally
        ∙ told_in_all (meant_of lines) (leads.end done).stands.told
        ∙ meant_length (kinds_in (header_of lines)) (trace_of lines)
