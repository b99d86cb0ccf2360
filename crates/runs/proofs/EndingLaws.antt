-- An input ends with one of the numbers listed, so 3, 4 and 7 never come in the program; and with 26 exactly where it has too many lines.
-- Assumes nothing.
use Prim.Native.Nat.{ℕ, suc, ◌+◌, ◌≤◌, ◌<◌}
use mathlib.Core.Path.{◌≡◌, refl, sym, ◌∙◌, subst}
use mathlib.Core.Bool.{Bool, true, false, not, false≢true}
use mathlib.Core.List.{List, [], ◌∷◌, ◌++◌}
use mathlib.Core.Logic.{◌⊎◌, inl, inr}
use native.Mathlib.Omega.{arith}
use lib.Dec.{eqb, ltb, leb}
use lib.ListN.{length, length-append}
use borrow.Author.Tests.{ne_eqb, eqb-true, eqb-false, ltb-true, ltb-false, leb-true, leb-false}
use Rattle.lists.specs.Members.{mem}
use Rattle.lists.specs.Tests.{first_of}
use Rattle.lists.proofs.Cases.{cases, picked}
use Rattle.cache.specs.Cache.{Given}
use Rattle.order.specs.declared.Order.{Order}
use Rattle.order.specs.Limits.{within, stack_need, count_need}
use Rattle.taking.specs.World.{World}
use Rattle.taking.specs.Opening.{open_answer, unopened}
use Rattle.calls.proofs.AnswerLaws.{after_cases}
use Rattle.lines.specs.declared.Kinds.{Kinds}
use Rattle.lines.specs.OrderLine.{OrderLine, Bmin, Bmax, Smax, Ways, Room, Refs, Counting, Begin, Refused as BadOrder, order_line_of}
use Rattle.reading.specs.Meaning.{Meaning, meaning_of, column_or, given_by}
use Rattle.reading.specs.Reading.{desk, start, Outcome}
use Rattle.reading.specs.Step.{lines_most}
use Rattle.reading.specs.Tables.{stack_entries, Allotted}
use Rattle.reading.proofs.TableLaws.{opening_in_program}
use Rattle.runs.specs.Input.{Runs, is_begin, trace_of, order_in, kinds_in, meant_in}
use Rattle.runs.specs.Endings.{Ending, ends_at, ending_of, listed, trace_answer, trace_ending, is_in_place, order_answer, input_ending}
use Rattle.runs.proofs.MeaningLaws.{meaning_cases}
use Rattle.runs.proofs.ProgramLaws.{program_ends}

-- ---- the answer to a line that is read, over the tables of w: a number listed, or 3 where the tables are not those of the program; and not 26

record Read (w : World) (n : ℕ) : Type 0 where
  number : mem n (3 ∷ listed) ≡ true
  read : n ≡ 26 → ⊥
  enough : Allotted w → n ≡ 3 → ⊥

-- not 3 over any tables
read_of : (w : World) (n : ℕ) → mem n (3 ∷ listed) ≡ true → (n ≡ 26 → ⊥) → (n ≡ 3 → ⊥) → Read w n
read_of w n m many three = record { number = m; read = many; enough = λ a. three }

one_to_three : (limits stacks counts : Bool)
    → let n = first_of ((limits, 1) ∷ (stacks, 2) ∷ (counts, 3) ∷ []) in (mem n (3 ∷ listed) ≡ true) × (n ≡ 26 → ⊥)
one_to_three true stacks counts = (refl, λ z. omega arith)
one_to_three false true counts = (refl, λ z. omega arith)
one_to_three false false true = (refl, λ z. omega arith)
one_to_three false false false = (refl, λ z. omega arith)

one_or_two : (limits stacks : Bool) → first_of ((limits, 1) ∷ (stacks, 2) ∷ []) ≡ 3 → ⊥
one_or_two true stacks z = omega arith
one_or_two false true z = omega arith
one_or_two false false z = omega arith

open_read : (o : Order) (w : World) → Read w (open_answer o w)
open_read o w =
    let any = one_to_three (not (within o)) (ltb (length w.stacks) (stack_need o)) (ltb (length w.counts) (count_need o)) in
    record {
      number = any.0;
      read = any.1;
      enough = λ a z. one_or_two (not (within o)) (ltb stack_entries (stack_need o)) (sym (opening_in_program o w a) ∙ z);
    }

trace_read : (w : World) (o : Order) (past : List Given) (kinds : Kinds) (line : List ℕ) → Read w (trace_answer o past (meaning_of kinds line))
trace_read w o past =
    meaning_cases (λ (m : Meaning). Read w (trace_answer o past m))
    (after_cases (Read w)
    (read_of w 0 refl (λ z. omega arith) (λ z. omega arith))
    (read_of w 5 refl (λ z. omega arith) (λ z. omega arith))
    (read_of w 6 refl (λ z. omega arith) (λ z. omega arith))
    o past)
    (read_of w 0 refl (λ z. omega arith) (λ z. omega arith))
    (λ c. (
      read_of w 14 refl (λ z. omega arith) (λ z. omega arith),
      read_of w 15 refl (λ z. omega arith) (λ z. omega arith),
      read_of w 16 refl (λ z. omega arith) (λ z. omega arith),
      read_of w 17 refl (λ z. omega arith) (λ z. omega arith),
    ))

order_read : (w : World) (said : List OrderLine) (l : OrderLine) → Read w (order_answer w said l)
order_read w said l =
    picked (Read w) (is_in_place (length said) l)
    (λ e. picked (Read w) (is_begin l) (λ f. open_read (order_in said) w) (λ f. read_of w 0 refl (λ z. omega arith) (λ z. omega arith)))
    (λ e. read_of w 10 refl (λ z. omega arith) (λ z. omega arith))

-- a line in its place is one of the first eight
place_most : (n : ℕ) (l : OrderLine) → is_in_place n l ≡ true → n ≤ 7
place_most n (Bmin value) e = omega (arith, eqb-true n 0 e)
place_most n (Bmax value) e = omega (arith, eqb-true n 1 e)
place_most n (Smax value) e = omega (arith, eqb-true n 2 e)
place_most n (Ways value) e = omega (arith, eqb-true n 3 e)
place_most n (Room value) e = omega (arith, eqb-true n 4 e)
place_most n (Refs value) e = omega (arith, eqb-true n 5 e)
place_most n (Counting kinds) e = omega (arith, eqb-true n 6 e)
place_most n Begin e = cases (eqb n 6) (λ f. omega (arith, eqb-true n 6 f)) (λ f. omega (arith, eqb-true n 7 (simp f at e)))
place_most n (BadOrder answer) e = absurd (false≢true e)

few_before : (w : World) (said : List OrderLine) (l : OrderLine) → order_answer w said l ≡ 0 → length said ≤ 7
few_before w said l e =
    cases (is_in_place (length said) l)
    (λ f. place_most (length said) l f)
    (λ f. absurd (omega (arith, simp f at e)))

-- ---- the end of an input: listed; 26 only where it has too many lines; and where it has, 26 or an earlier refusal

abbrev pub Stopped : ℕ → ℕ → Type 0
Stopped answer line = ((answer ≡ 26) × (line ≡ lines_most + 1)) ⊎ ((answer ≡ 0 → ⊥) × (answer ≡ 26 → ⊥) × (line ≤ lines_most))

-- n lines in all, over the tables of w
record Fits (w : World) (n : ℕ) (e : Ending) : Type 0 where
  number : mem e.answer (3 ∷ listed) ≡ true
  enough : Allotted w → e.answer ≡ 3 → ⊥
  few : e.answer ≡ 26 → lines_most < n
  many : lines_most < n → Stopped e.answer e.line

fits_same : {w : World} {n m : ℕ} {e : Ending} → n ≡ m → Fits w n e → Fits w m e
fits_same {w = w} {e = e} p f = subst (λ (k : ℕ). Fits w k e) p f

-- done, or missing, at the end
fits_done : (w : World) (n : ℕ) → n ≤ lines_most → (e : Ending) → mem e.answer (3 ∷ listed) ≡ true → (e.answer ≡ 3 → ⊥) → (e.answer ≡ 26 → ⊥)
    → Fits w n e
fits_done w n h e m three many = record { number = m; enough = λ a. three; few = λ z. absurd (many z); many = λ z. absurd (omega arith) }

-- refused at a line that is read
fits_refused : (w : World) (n : ℕ) (e : Ending) → Read w e.answer → (e.answer ≡ 0 → ⊥) → e.line ≤ lines_most → Fits w n e
fits_refused w n e r ne h =
    record { number = r.number; enough = r.enough; few = λ z. absurd (r.read z); many = λ z. inr (ne, r.read, h) }

trace_fits : (w : World) (lines : List (List ℕ)) (o : Order) (kinds : Kinds) (past : List Given) (n : ℕ) → n ≤ lines_most
    → Fits w (n + length lines) (trace_ending o past n (meant_in kinds lines))
unfolding trace_ending meant_in
trace_fits w [] o kinds past n h = fits_done w (n + 0) (omega arith) (ends_at 0 n 0) refl (λ z. omega arith) (λ z. omega arith)
trace_fits w (line ∷ more) o kinds past n h =
    let answer = trace_answer o past (meaning_of kinds line) in
    let ending = ends_at answer (n + 1) (column_or 0 (meaning_of kinds line)) in
    let rest = trace_fits w more o kinds (past ++ given_by (meaning_of kinds line)) (n + 1) in
    cases (leb lines_most n)
    (λ t.
    let last = leb-true lines_most n t in
    simp t (record { number = refl; enough = λ a z. omega arith; few = λ z. omega arith; many = λ z. inl (refl, omega arith) }))
    (λ t.
    let below = leb-false lines_most n t in
    simp t
    (picked (Fits w (n + suc (length more))) (eqb answer 0)
    (λ e. fits_same (omega arith) (rest (omega arith)))
    (λ e. fits_refused w (n + suc (length more)) ending (trace_read w o past kinds line) (eqb-false answer 0 e) (omega arith))))

input_fits : (lines : List (List ℕ)) (w : World) (said : List OrderLine) → length said ≤ 8
    → Fits w (length said + length lines) (input_ending w said lines)
unfolding input_ending
input_fits [] w said h =
    fits_done w (length said + 0) (omega arith) (ends_at 10 (length said + 1) 0) refl (λ z. omega arith) (λ z. omega arith)
input_fits (line ∷ more) w said h =
    let l = order_line_of line in
    let n = length said + suc (length more) in
    let rest = input_fits more w (said ++ (l ∷ [])) in
    let one_more = length-append said (l ∷ []) in
    picked (Fits w n) (eqb (order_answer w said l) 0)
    (λ e.
    let few = few_before w said l (eqb-true (order_answer w said l) 0 e) in
    picked (Fits w n) (is_begin l)
    (λ f. fits_same (omega arith) (trace_fits w more (order_in said) (kinds_in said) [] (length said + 1) (omega arith)))
    (λ f. fits_same (omega arith) (rest (omega arith))))
    (λ e. fits_refused w n (ends_at (order_answer w said l) (length said + 1) 0) (order_read w said l) (eqb-false (order_answer w said l) 0 e)
    (omega arith))

-- ---- so of every run from the start, within the contracts

not_done : (answer line : ℕ) → Stopped answer line → answer ≡ 0 → ⊥
not_done answer line (inl many) z = omega arith
not_done answer line (inr refused) z = refused.0 z

trace_part : (lines : List (List ℕ)) → length (trace_of lines) ≤ length lines
unfolding trace_of
trace_part [] = omega arith
trace_part (line ∷ more) =
    picked (λ (l : List (List ℕ)). length l ≤ suc (length more)) (is_begin (order_line_of line)) (λ e. omega arith) (λ e. omega (arith, trace_part more))

module _ (st ct : List ℕ) (lines : List (List ℕ)) (o : Outcome) (run : Runs (desk start st ct) lines o) where
  end_fits : Fits (unopened st ct) (length lines) (ending_of o)
  end_fits =
      subst (Fits (unopened st ct) (length lines)) (sym (program_ends st ct lines o run))
      (fits_same (omega arith) (input_fits lines (unopened st ct) [] (omega arith)))

  -- over the program's tables the answer is one of those listed: so 3, 4 and 7 never come in the program
  pub run_listed : Allotted (unopened st ct) → mem o.answer listed ≡ true
  run_listed a = let other = ne_eqb o.answer 3 (end_fits.enough a) in simp other at end_fits.number

  -- 26 comes only with more than 4,294,967,295 lines
  pub only_too_many : o.answer ≡ 26 → lines_most < length lines
  only_too_many = end_fits.few

  -- and with them it comes, at the first line too many, unless an earlier line is refused
  pub too_many : lines_most < length lines → Stopped o.answer o.left.reading.lines
  too_many = end_fits.many

  -- so where the run is done, its trace has no more lines than that
  pub few_traced : o.answer ≡ 0 → length (trace_of lines) ≤ lines_most
  few_traced done =
      cases (ltb lines_most (length lines))
      (λ t. absurd (not_done o.answer o.left.reading.lines (too_many (ltb-true lines_most (length lines) t)) done))
      (λ t. let few = ltb-false lines_most (length lines) t in omega (arith, trace_part lines))
