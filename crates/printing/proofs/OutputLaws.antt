-- The program from bytes to bytes: what is held after the bytes of an input and its end, printed, is what its lines alone call for.
-- Assumes nothing.
use Prim.Native.Nat.{ℕ, zero, suc, ◌+◌, ◌-◌, ◌≤◌}
use mathlib.Core.Path.{◌≡◌, refl, sym, ap, ap₂, ◌∙◌, subst}
use mathlib.Core.Bool.{Bool, true, cond}
use mathlib.Core.List.{List, [], ◌∷◌, ◌++◌, append_assoc}
use native.Mathlib.Omega.{arith}
use lib.Dec.{eqb}
use borrow.Author.Tests.{eqb-true, eqb-false, eq-eqb, ne_eqb}
use Rattle.lists.specs.Tests.{All≤}
use Rattle.lists.proofs.Cases.{cases}
use Rattle.lists.proofs.TestLaws.{all_yes}
use Rattle.order.specs.declared.Cache.{Cache}
use Rattle.order.specs.declared.Order.{Order}
use Rattle.taking.specs.Opening.{unopened}
use Rattle.taking.specs.Questions.{has, asked, misses_of}
use Rattle.reading.specs.Reading.{desk, Outcome, start as noLine}
use Rattle.runs.specs.Input.{Runs, header_of, order_in, given_of}
use Rattle.runs.specs.Endings.{Ending, ending_of, input_ending}
use Rattle.runs.proofs.InputLaws.{run_there}
use Rattle.runs.proofs.ProgramLaws.{program_ends, program_order, program_limits, program_misses, program_refs, program_tally}
use Rattle.feeding.specs.declared.Feeding.{Feeding}
use Rattle.feeding.specs.Lines.{lines_of}
use Rattle.feeding.specs.Machine.{Held, fed, finished}
use Rattle.feeding.specs.Feeding.{by_lines, start, held_by}
use Rattle.feeding.proofs.RunLaws.{finished_run}
use Rattle.printing.specs.Grid.{each_from, at, grid_of}
use Rattle.printing.specs.Printed.{head_lines, cache_line, line_at, lines_by, table_of, output_of}
use Rattle.printing.specs.Output.{line_over, table_over, refusal_for, ending_over, printed_for}

-- ---- lines of caches, one after the other

lines_append : (line : Cache → List ℕ) (a b : List Cache) → lines_by line (a ++ b) ≡ lines_by line a ++ lines_by line b
unfolding lines_by
lines_append line [] b = refl
lines_append line (c ∷ a) b = ap (line c ++◌) (lines_append line a b) ∙ sym (append_assoc (line c) (lines_by line a) (lines_by line b))

lines_one : (line : Cache → List ℕ) (c : Cache) → lines_by line (c ∷ []) ≡ line c ++ []
unfolding lines_by
lines_one line c = refl

module _ (f g : Cache → List ℕ) where
  each_same : (l : ℕ → List Cache) (n a : ℕ) → ((k : ℕ) → k ≤ n → lines_by f (l (a + k)) ≡ lines_by g (l (a + k)))
      → lines_by f (each_from l a n) ≡ lines_by g (each_from l a n)
  unfolding each_from
  each_same l zero a h = subst (λ (m : ℕ). lines_by f (l m) ≡ lines_by g (l m)) (omega arith) (h 0 (omega arith))
  each_same l (suc n) a h =
      let first : lines_by f (l a) ≡ lines_by g (l a) = subst (λ (m : ℕ). lines_by f (l m) ≡ lines_by g (l m)) (omega arith) (h 0 (omega arith)) in
      let rest = each_same l n (a + 1) (λ k z. subst (λ (m : ℕ). lines_by f (l m) ≡ lines_by g (l m)) (omega arith) (h (suc k) (omega arith))) in
      lines_append f (l a) (each_from l (a + 1) n) ∙ ap₂ ◌++◌ first rest ∙ sym (lines_append g (l a) (each_from l (a + 1) n))

-- ---- the table

module _ (st ct : List ℕ) (lines : List (List ℕ)) (o : Outcome) (run : Runs (desk noLine st ct) lines o) (done : o.answer ≡ 0) where
  abbrev r : Order
  r = o.left.reading.opened.order

  abbrev ours : Cache → List ℕ
  ours = line_at o.left.reading.opened o.left.counts

  cache_printed : (b s w : ℕ) → All≤ (asked r b s w) → ours (at b s w) ≡ line_over (given_of lines) (at b s w)
  cache_printed b s w h =
      let there : has (order_in (header_of lines)) b s w ≡ true =
      subst (λ (x : Order). has x b s w ≡ true) (program_order st ct lines o run done) (all_yes (asked r b s w) h) in
      let q = misses_of o.left.reading.opened o.left.counts b s w in
      let told = program_misses st ct lines o run done b s w there q refl in
      ap (λ (t : Bool). cond t (cache_line b s w q.misses) []) (eq-eqb q.answer 0 told.0) ∙ ap (cache_line b s w) told.1

  grid_printed : lines_by ours (grid_of r) ≡ lines_by (line_over (given_of lines)) (grid_of r)
  grid_printed =
      let fine = program_limits st ct lines o run done in
      let theirs = line_over (given_of lines) in
      each_same ours theirs _ (r.bmax.0 - r.bmin.0) r.bmin.0
      (λ k x. each_same ours theirs _ r.smax 0
      (λ j y. each_same ours theirs _ (r.ways - 1) 1
      (λ i z.
      let c = at (r.bmin.0 + k) (0 + j) (1 + i) in
      let same = cache_printed (r.bmin.0 + k) (0 + j) (1 + i) (omega arith, (omega arith, (omega arith, (omega arith, (omega arith, tt))))) in
      lines_one ours c ∙ ap (λ (l : List ℕ). l ++ []) same ∙ sym (lines_one theirs c))))

  table_printed : table_of o.left.reading.opened o.left.reading.tally o.left.counts ≡ table_over lines
  table_printed =
      ap₂ ◌++◌ (ap₂ head_lines (program_refs st ct lines o run done) (program_tally st ct lines o run done))
      (grid_printed ∙ ap (λ (x : Order). lines_by (line_over (given_of lines)) (grid_of x)) (program_order st ct lines o run done))

-- ---- the output

pub run_printed : (st ct : List ℕ) (lines : List (List ℕ)) (o : Outcome) → Runs (desk noLine st ct) lines o
    → let e = input_ending (unopened st ct) [] lines in
    output_of o.answer o.left.reading o.left.counts ≡ ending_over e lines
run_printed st ct lines o run =
    let e = input_ending (unopened st ct) [] lines in
    let ends = program_ends st ct lines o run in
    let same = ap (λ (e : Ending). e.answer) ends in
    let table = table_of o.left.reading.opened o.left.reading.tally o.left.counts in
    let refusal = refusal_for (ending_of o) in
    cases (eqb o.answer 0)
    (λ t.
    let done = eqb-true o.answer 0 t in
    ap (λ (b : Bool). cond b table refusal) t
    ∙ table_printed st ct lines o run done
    ∙ sym (ap (λ (b : Bool). cond b (table_over lines) (refusal_for e)) (eq-eqb e.answer 0 (sym same ∙ done))))
    (λ t.
    let refused = eqb-false o.answer 0 t in
    ap (λ (b : Bool). cond b table refusal) t
    ∙ ap refusal_for ends
    ∙ sym (ap (λ (b : Bool). cond b (table_over lines) (refusal_for e)) (ne_eqb e.answer 0 (λ z. refused (same ∙ z)))))

-- THE LAW: after the bytes of an input, in whatever slices, and its end, the output is the one that is defined for these bytes
pub program_prints : (st ct bytes : List ℕ) (f : Feeding) (st' ct' : List ℕ)
    → held_by f st' ct' ≡ finished by_lines (fed by_lines (held_by start st ct) bytes) → output_of f.answer f.reading ct' ≡ printed_for st ct bytes
program_prints st ct bytes f st' ct' e =
    let o = (held_by f st' ct').state in
    let run = sym (ap (λ (d : Held Outcome). d.state) e ∙ finished_run st ct bytes) in
    run_printed st ct (lines_of bytes) o (subst (Runs (desk noLine st ct) (lines_of bytes)) run (run_there (lines_of bytes) (desk noLine st ct)))
