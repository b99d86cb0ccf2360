-- From what opening an order promises to the outcome of the begin line, and that a line too long for the buffer is told without its bytes.
-- Assumes nothing.
use Prim.Native.Nat.{ℕ, ◌≤◌, ◌<◌}
use mathlib.Core.Path.{◌≡◌, sym, ap, ap₂, ◌∙◌}
use mathlib.Core.Bool.{Bool, true, cond}
use mathlib.Core.List.{List}
use native.Mathlib.Omega.{arith}
use lib.Dec.{eqb}
use lib.ListN.{length}
use borrow.Author.Tests.{eq-eqb, eqb-false, lt-ltb}
use Rattle.lists.proofs.Cases.{cases}
use Rattle.lists.proofs.TestLaws.{settled_done, settled_not}
use Rattle.order.specs.declared.Order.{Order}
use Rattle.taking.specs.World.{World}
use Rattle.taking.specs.Opening.{open_answer, opened, unopened, Opens}
use Rattle.cache.specs.Cache.{ref}
use Rattle.units.specs.declared.Addr.{Addr}
use Rattle.lines.specs.Bytes.{longest}
use Rattle.lines.specs.TraceLine.{Ref, trace_line_of}
use Rattle.lines.specs.declared.Kind.{Kind}
use Rattle.lines.specs.OrderLine.{order_line_of, counts_kind}
use Rattle.reading.specs.Reading.{kinds_next, begin_next, trace_next, with_stage, with_reading, world_of, with_world}
use Rattle.reading.specs.Reading.{Desk, desk, outcome, stays}
use Rattle.reading.specs.Head.{begun, begin_at, order_of, opening}
use Rattle.reading.specs.Meaning.{gives, skips, meant}
use Rattle.reading.specs.Step.{trace_step, in_trace, is_too_many, step_of, long_line}

module _ (d : Desk) (n : ℕ) (w : World) (t : Opens (order_of d.reading) (unopened d.stacks d.counts) n w) where
  abbrev o : Order
  o = order_of d.reading

  abbrev answer : ℕ
  answer = open_answer o (world_of d)

  abbrev old : World
  old = unopened d.stacks d.counts

  -- the desk of the trace
  abbrev next : Desk
  next = with_reading (with_stage trace_next d.reading) d

  -- an opening that is done: the trace begins
  pub opened_outcome : n ≡ 0 → outcome n (with_world w next) ≡ opening d
  opened_outcome e =
      let zero = sym t.answer ∙ e in
      ap₂ outcome t.answer
      (ap (λ (x : World). with_world x next) (t.left ∙ settled_done answer (opened o (world_of d)) old zero)
      ∙ sym (settled_done answer (begun o d) d zero))

  -- one that is refused: the state stays
  pub unopened_outcome : (n ≡ 0 → ⊥) → outcome n (desk d.reading w.stacks w.counts) ≡ opening d
  unopened_outcome ne =
      let other : answer ≡ 0 → ⊥ = λ z. ne (t.answer ∙ z) in
      ap₂ outcome t.answer
      (ap (λ (x : World). desk d.reading x.stacks x.counts) (t.left ∙ settled_not answer (opened o (world_of d)) old other)
      ∙ sym (settled_not answer (begun o d) d other))

-- the begin line stands at two stages, and at no other
pub begin_stands : (d : Desk) → kinds_next ≤ d.reading.stage → d.reading.stage ≤ begin_next → opening d ≡ begin_at d
begin_stands d h g =
    cases (eqb d.reading.stage kinds_next)
    (λ e. simp e)
    (λ e.
    let other : d.reading.stage ≡ kinds_next → ⊥ = eqb-false d.reading.stage kinds_next e in
    simp (e, eq-eqb d.reading.stage begin_next (omega (arith, other))))

-- a line longer than the buffer: `long_line` answers as `step` would, whatever the line says
pub long_line_is_step : (d : Desk) (line : List ℕ) → longest < length line → stays (long_line d.reading) d ≡ step_of d line
unfolding trace_line_of order_line_of
long_line_is_step d line h =
    let long = lt-ltb longest (length line) h in
    cases (is_too_many d.reading)
    (λ e. simp e)
    (λ e. cases (in_trace d.reading) (λ f. simp (e, f, long)) (λ f. simp (e, f, long)))

-- a reference, by whether its kind is counted
pub counted_step : (d : Desk) (kind : Kind) (a : Addr) → counts_kind d.reading.head.kinds kind ≡ true
    → trace_step d (gives (ref a.0)) ≡ trace_step d (meant d.reading.head.kinds (Ref kind a))
counted_step d kind a e = ap (λ (t : Bool). trace_step d (cond t (gives (ref a.0)) skips)) (sym e)
