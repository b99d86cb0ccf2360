-- Every sequence of lines, from any state: the contracts leave one outcome. Assumes nothing.
use Prim.Native.Nat.{ℕ}
use mathlib.Core.Path.{◌≡◌, refl, sym, ap, ◌∙◌}
use mathlib.Core.Bool.{Bool, cond}
use mathlib.Core.List.{List, [], ◌∷◌}
use native.Mathlib.Omega.{arith}
use lib.Dec.{eqb}
use borrow.Author.Tests.{eq-eqb, ne_eqb, eqb-true, eqb-false}
use Rattle.lists.proofs.Cases.{picked}
use Rattle.reading.specs.declared.Reading.{Reading}
use Rattle.reading.specs.Reading.{Step, Desk, Outcome, outcome, stays}
use Rattle.reading.specs.Step.{in_trace, is_too_many, step_of, long_line}
use Rattle.reading.proofs.StepLaws.{long_line_is_step}
use Rattle.runs.specs.Input.{Runs, at_end, done, refused, too_long, run_from}

-- the run from a step's outcome on
abbrev goes_on : Outcome → List (List ℕ) → Outcome
goes_on o more = cond (eqb o.answer 0) (run_from o.left more) o

goes_on_done : (o : Outcome) (more : List (List ℕ)) → o.answer ≡ 0 → goes_on o more ≡ run_from o.left more
goes_on_done o more e = ap (λ (t : Bool). cond t (run_from o.left more) o) (eq-eqb o.answer 0 e)

goes_on_refused : (o : Outcome) (more : List (List ℕ)) → (o.answer ≡ 0 → ⊥) → goes_on o more ≡ o
goes_on_refused o more ne = ap (λ (t : Bool). cond t (run_from o.left more) o) (ne_eqb o.answer 0 ne)

pub long_refused : (v : Reading) → (long_line v).answer ≡ 0 → ⊥
long_refused v =
    picked (λ (s : Step). s.answer ≡ 0 → ⊥) (is_too_many v)
    (λ e z. omega arith)
    (λ e. picked (λ (s : Step). s.answer ≡ 0 → ⊥) (in_trace v) (λ f z. omega arith) (λ f z. omega arith))

-- any run within the contracts ends with what `run_from` gives
pub run_determined : {d : Desk} {lines : List (List ℕ)} {o : Outcome} → Runs d lines o → o ≡ run_from d lines
unfolding run_from
run_determined (at_end {d} {r} e) = ap (λ (s : Step). stays s d) e
run_determined (done {d} {d'} {line} {more} {n} {o} c e rest) =
    run_determined rest ∙ sym (goes_on_done (outcome n d') more e) ∙ ap (λ (x : Outcome). goes_on x more) c
run_determined (refused {d} {d'} {line} {more} {n} c ne) = sym (goes_on_refused (outcome n d') more ne) ∙ ap (λ (x : Outcome). goes_on x more) c
run_determined (too_long {d} {line} {more} {r} h e) =
    sym (goes_on_refused (stays r d) more (λ z. long_refused d.reading (sym (ap (λ (s : Step). s.answer) e) ∙ z)))
    ∙ ap (λ (x : Outcome). goes_on x more) (ap (λ (s : Step). stays s d) e ∙ long_line_is_step d line h)

-- and there is such a run
pub run_there : (lines : List (List ℕ)) (d : Desk) → Runs d lines (run_from d lines)
unfolding run_from
run_there [] d = at_end refl
run_there (line ∷ more) d =
    let o = step_of d line in
    picked (Runs d (line ∷ more)) (eqb o.answer 0)
    (λ e. done {d' = o.left} {n = o.answer} refl (eqb-true o.answer 0 e) (run_there more o.left))
    (λ e. refused {d' = o.left} {n = o.answer} refl (eqb-false o.answer 0 e))
