-- An input that ends with 14 to 17 ends at a line of the trace that reads so: with that number, at that column. Assumes nothing.
use Prim.Native.Nat.{ℕ, suc, ◌+◌, ◌-◌}
use mathlib.Core.Path.{◌≡◌, refl, sym, ap, ◌∙◌, subst}
use mathlib.Core.Bool.{Bool, true, false, cond, not, false≢true}
use mathlib.Core.List.{List, [], ◌∷◌, ◌++◌}
use native.Mathlib.Omega.{arith}
use lib.Dec.{eqb, leb, ltb}
use lib.ListN.{length, get_or, length-append}
use Rattle.lists.specs.Tests.{first_of}
use Rattle.lists.proofs.Cases.{picked}
use Rattle.cache.specs.Cache.{Given, ref, flush}
use Rattle.units.specs.Refusals.{has_column}
use Rattle.order.specs.declared.Order.{Order}
use Rattle.order.specs.Limits.{within, stack_need, count_need}
use Rattle.taking.specs.World.{World}
use Rattle.taking.specs.Opening.{unopened}
use Rattle.calls.specs.Answers.{answer_after}
use Rattle.calls.proofs.AnswerLaws.{after_cases}
use Rattle.lines.specs.declared.Kinds.{Kinds}
use Rattle.lines.specs.OrderLine.{OrderLine, order_line_of, counts_kind}
use Rattle.lines.specs.TraceLine.{TraceLine, bad_at, trace_line_of}
use Rattle.lines.proofs.CaseLaws.{trace_cases}
use Rattle.reading.specs.Meaning.{Meaning, gives, skips, meant, meaning_of, column_or, given_by}
use Rattle.reading.specs.Reading.{desk, start, Outcome}
use Rattle.reading.specs.Step.{lines_most}
use Rattle.runs.specs.Input.{Runs, is_begin, order_in, kinds_in, meant_in}
use Rattle.runs.specs.Endings.{Ending, trace_answer, line_ending, trace_ending, is_in_place, order_answer, input_ending}
use Rattle.runs.proofs.ProgramLaws.{program_ends}

-- a number without a column tells of no bad line
none : {A : Type 0} (n : ℕ) → has_column n ≡ false → has_column n ≡ true → A
none n f t = absurd (false≢true (sym f ∙ t))

-- ---- the trace

module _ (o : Order) (past : List Given) (kinds : Kinds) where
  abbrev Tells : TraceLine → Type 0
  Tells t = let m = meant kinds t in has_column (trace_answer o past m) ≡ true → t ≡ bad_at (trace_answer o past m) (column_or 0 m)

  -- what is given is told with no column
  given_none : (g : Given) → has_column (answer_after o past g) ≡ false
  given_none = after_cases (λ (n : ℕ). has_column n ≡ false) refl refl refl o past

  line_tells : (line : List ℕ) → Tells (trace_line_of line)
  line_tells =
      trace_cases Tells
      (λ kind a.
      let given = gives (ref a.0) in
      none (trace_answer o past (cond (counts_kind kinds kind) given skips))
      (picked (λ (m : Meaning). has_column (trace_answer o past m) ≡ false) (counts_kind kinds kind) {x = given} {y = skips}
      (λ e. given_none (ref a.0)) (λ e. refl)))
      (none (answer_after o past flush) (given_none flush))
      (λ h. refl) (λ h. refl) (λ k above h. refl) (λ h. refl)

-- the ending is at a line after n others, and that line tells it
abbrev AtBadLine : List (List ℕ) → ℕ → Ending → Type 0
AtBadLine lines n e = has_column e.answer ≡ true
    → (i : ℕ) × (e.line ≡ n + 1 + i) × (trace_line_of (get_or lines i []) ≡ bad_at e.answer e.column)

one_later : (line : List ℕ) (more : List (List ℕ)) (n : ℕ) (e : Ending) → AtBadLine more (n + 1) e → AtBadLine (line ∷ more) n e
one_later line more n e later h = let l = later h in (suc l.0, omega (arith, l.1), l.2)

trace_bad : (lines : List (List ℕ)) (o : Order) (kinds : Kinds) (past : List Given) (n : ℕ)
    → AtBadLine lines n (trace_ending o past n (meant_in kinds lines))
unfolding trace_ending meant_in
trace_bad [] o kinds past n = none 0 refl
trace_bad (line ∷ more) o kinds past n =
    let m = meaning_of kinds line in
    let then = trace_ending o (past ++ given_by m) (n + 1) (meant_in kinds more) in
    picked (AtBadLine (line ∷ more) n) (eqb (line_ending o past n m).answer 0)
    (λ e. one_later line more n then (trace_bad more o kinds (past ++ given_by m) (n + 1)))
    (λ e. picked (AtBadLine (line ∷ more) n) (leb lines_most n)
    (λ t. none 26 refl)
    (λ t h. (0, omega arith, line_tells o past kinds line h)))

-- ---- the order

open_none : (limits stacks counts : Bool) → has_column (first_of ((limits, 1) ∷ (stacks, 2) ∷ (counts, 3) ∷ [])) ≡ false
open_none true stacks counts = refl
open_none false true counts = refl
open_none false false true = refl
open_none false false false = refl

order_none : (w : World) (said : List OrderLine) (l : OrderLine) → has_column (order_answer w said l) ≡ false
order_none w said l =
    let o = order_in said in
    picked (λ (n : ℕ). has_column n ≡ false) (is_in_place (length said) l)
    (λ e. picked (λ (n : ℕ). has_column n ≡ false) (is_begin l)
    (λ f. open_none (not (within o)) (ltb (length w.stacks) (stack_need o)) (ltb (length w.counts) (count_need o)))
    (λ f. refl))
    (λ e. refl)

input_bad : (lines : List (List ℕ)) (w : World) (said : List OrderLine) → AtBadLine lines (length said) (input_ending w said lines)
unfolding input_ending
input_bad [] w said = none 10 refl
input_bad (line ∷ more) w said =
    let l = order_line_of line in
    let trace = trace_ending (order_in said) [] (length said + 1) (meant_in (kinds_in said) more) in
    let then = input_ending w (said ++ (l ∷ [])) more in
    picked (AtBadLine (line ∷ more) (length said)) (eqb (order_answer w said l) 0)
    (λ e. picked (AtBadLine (line ∷ more) (length said)) (is_begin l)
    (λ b. one_later line more (length said) trace (trace_bad more (order_in said) (kinds_in said) [] (length said + 1)))
    (λ b. one_later line more (length said) then
    (subst (λ (n : ℕ). AtBadLine more n then) (length-append said (l ∷ [])) (input_bad more w (said ++ (l ∷ []))))))
    (λ e. none (order_answer w said l) (order_none w said l))

-- ---- so of every run from the start, within the contracts

pub refused_so : (st ct : List ℕ) (lines : List (List ℕ)) (o : Outcome) → Runs (desk start st ct) lines o → has_column o.answer ≡ true
    → trace_line_of (get_or lines (o.left.reading.lines - 1) []) ≡ bad_at o.answer o.left.reading.column
refused_so st ct lines o run h =
    let at = subst (AtBadLine lines 0) (sym (program_ends st ct lines o run)) (input_bad lines (unopened st ct) []) h in
    let place : o.left.reading.lines - 1 ≡ at.0 = omega (arith, at.1) in
    ap (λ (i : ℕ). trace_line_of (get_or lines i [])) place ∙ at.2
