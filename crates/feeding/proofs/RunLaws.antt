-- The program's reader: it is one of those that the laws are about, and over lines it is the run of the program. Assumes nothing.
use Prim.Native.Nat.{ℕ}
use mathlib.Core.Path.{◌≡◌, refl, sym, ap, ◌∙◌, subst}
use mathlib.Core.Bool.{Bool, cond, not}
use mathlib.Core.List.{List, [], ◌∷◌}
use lib.Dec.{eqb}
use lib.ListN.{replicate}
use borrow.Author.Tests.{eqb-true, eqb-false, eq-eqb, ne_eqb}
use Rattle.lists.proofs.Cases.{cases}
use Rattle.lines.specs.Bytes.{longest}
use Rattle.reading.specs.Reading.{Desk, desk, Outcome, outcome, start as noLine}
use Rattle.reading.specs.Step.{step_of, long_line, ended as no_more}
use Rattle.reading.proofs.StepLaws.{long_line_is_step}
use Rattle.runs.specs.Input.{Runs, run_from}
use Rattle.runs.proofs.InputLaws.{run_there, long_refused}
use Rattle.feeding.specs.declared.Feeding.{Feeding}
use Rattle.feeding.specs.Lines.{lf, lines_of, joined}
use Rattle.feeding.specs.Machine.{Held, held, feed_byte, fed, input_ends, finished, run_over}
use Rattle.feeding.specs.Feeding.{by_lines, start, held_by, Ends}
use Rattle.feeding.specs.Calls.{Calls, ended, last, feed}
use Rattle.feeding.proofs.ByteLaws.{Sound}
use Rattle.feeding.proofs.InputLaws.{input_run, fed_slices}

pub sound : Sound by_lines
sound = record {
  many = λ o x e. simp e;
  long = λ o x h. long_line_is_step o.left x h;
  over = λ o. ap not (ne_eqb (long_line o.left.reading).answer 0 (long_refused o.left.reading));
}

-- over lines, it is the run
pub run_over_lem : (lines : List (List ℕ)) (d : Desk) → run_over by_lines (outcome 0 d) lines ≡ run_from d lines
unfolding run_over run_from
run_over_lem [] d = refl
run_over_lem (line ∷ more) d =
    let o = step_of d line in
    cases (eqb o.answer 0)
    (λ e.
    let done = eqb-true o.answer 0 e in
    simp e (ap (λ (n : ℕ). run_over by_lines (outcome n o.left) more) done ∙ run_over_lem more o.left))
    (λ e. simp e)

-- the calls leave what the machine does with the bytes of all slices, and then their end
pub calls_are : {f : Feeding} {st ct : List ℕ} {slices : List (List ℕ)} {d : Held Outcome} → Calls f st ct slices d
    → d ≡ finished by_lines (fed by_lines (held_by f st ct) (joined slices))
unfolding joined
calls_are (ended {f} {r} {st} {ct} none e) =
    let d = held_by f st ct in
    e st ct ∙ sym (ap (λ (t : Bool). input_ends by_lines (cond t d (feed_byte by_lines d lf))) (eq-eqb f.len 0 none))
calls_are (last {f} {g} {r} {st} {ct} {st'} {ct'} some c e) =
    let d = held_by f st ct in
    e st' ct'
    ∙ ap (input_ends by_lines) c
    ∙ sym (ap (λ (t : Bool). input_ends by_lines (cond t d (feed_byte by_lines d lf))) (ne_eqb f.len 0 some))
calls_are (feed {f} {r} {bytes} {st} {ct} {st'} {ct'} {more} e rest) =
    calls_are rest
    ∙ ap (λ (x : Held Outcome). finished by_lines (fed by_lines x (joined more))) e
    ∙ sym (ap (finished by_lines) (fed_slices by_lines sound (held_by f st ct) bytes (joined more)))

-- THE LAW, of the program: from the start, over the bytes of an input and its end, it is the run over the lines
pub finished_run : (st ct bytes : List ℕ)
    → (finished by_lines (fed by_lines (held_by start st ct) bytes)).state ≡ run_from (desk noLine st ct) (lines_of bytes)
finished_run st ct bytes =
    input_run by_lines sound (outcome 0 (desk noLine st ct)) (replicate longest 0) bytes refl refl ∙ run_over_lem (lines_of bytes) (desk noLine st ct)

-- so of the calls, in whatever slices the bytes come
pub bytes_run : {st ct : List ℕ} {slices : List (List ℕ)} {d : Held Outcome} → Calls start st ct slices d
    → d.state ≡ run_from (desk noLine st ct) (lines_of (joined slices))
bytes_run {st} {ct} {slices} c = ap (λ (d : Held Outcome). d.state) (calls_are c) ∙ finished_run st ct (joined slices)

-- they are a run over these lines, so what is said of such runs is said of the bytes
pub bytes_runs : {st ct : List ℕ} {slices : List (List ℕ)} {d : Held Outcome} → Calls start st ct slices d
    → Runs (desk noLine st ct) (lines_of (joined slices)) d.state
bytes_runs {st} {ct} {slices} c =
    subst (Runs (desk noLine st ct) (lines_of (joined slices))) (sym (bytes_run c)) (run_there (lines_of (joined slices)) (desk noLine st ct))

-- and there are such calls, whatever the slices
abbrev There : Feeding → List ℕ → List ℕ → List (List ℕ) → Type 0
There f st ct slices = Calls f st ct slices (finished by_lines (fed by_lines (held_by f st ct) (joined slices)))

-- the state that is held, as a struct
abbrev state_of : Held Outcome → Feeding
state_of d = record { reading = d.state.left.reading; answer = d.state.answer; len = d.len; line = d.line }

-- the end of the input, of that state
abbrev after_end : Feeding → Feeding
after_end f = let s = no_more f.reading in record { reading = s.next; answer = s.answer; len = f.len; line = f.line }

abbrev end_of : Feeding → Feeding
end_of f = cond (eqb f.answer 0) (after_end f) f

end_is : (f : Feeding) → Ends f (end_of f)
end_is f st ct =
    let d = held_by f st ct in
    let ours : Bool → Held Outcome = λ (t : Bool). held_by (cond t (after_end f) f) st ct in
    let theirs : Bool → Held Outcome = λ (t : Bool). held (cond (not t) d.state (by_lines.ended d.state)) d.len d.line in
    cases (eqb f.answer 0) (λ e. ap ours e ∙ sym (ap theirs e)) (λ e. ap ours e ∙ sym (ap theirs e))

pub feeds_there : (slices : List (List ℕ)) (f : Feeding) (st ct : List ℕ) → There f st ct slices
unfolding joined
feeds_there [] f st ct =
    cases (eqb f.len 0)
    (λ e.
    let none = eqb-true f.len 0 e in
    let c : Calls f st ct [] (held_by (end_of f) st ct) = ended none (end_is f) in
    subst (Calls f st ct []) (calls_are c) c)
    (λ e.
    let some = eqb-false f.len 0 e in
    let d = fed by_lines (held_by f st ct) (lf ∷ []) in
    let c : Calls f st ct [] (held_by (end_of (state_of d)) d.state.left.stacks d.state.left.counts) =
    last {g = state_of d} some refl (end_is (state_of d)) in
    subst (Calls f st ct []) (calls_are c) c)
feeds_there (bytes ∷ more) f st ct =
    let d = fed by_lines (held_by f st ct) bytes in
    let rest = feeds_there more (state_of d) d.state.left.stacks d.state.left.counts in
    let c : Calls f st ct (bytes ∷ more) _ = feed {r = state_of d} refl rest in
    subst (Calls f st ct (bytes ∷ more)) (calls_are c) c
