-- What a line of the order makes of the state (SCOPE, "Program, order lines and din lines"): each line has its place, and the begin line opens
-- the order of the six numbers. Assumes nothing.
use Rattle.std.specs.Prelude.{ℕ, ◌+◌, cond, ◌||◌, eqb, get_or, set}
use Rattle.lists.specs.Tests.{settled}
use Rattle.units.specs.Refusals.{done, bad_order_line}
use Rattle.order.specs.declared.Order.{Order}
use Rattle.taking.specs.Opening.{open_answer, opened}
use Rattle.lines.specs.declared.Kinds.{Kinds}
use Rattle.lines.specs.OrderLine.{OrderLine, Bmin, Bmax, Smax, Ways, Room, Refs, Counting, Begin, Refused as BadOrder}
use Rattle.reading.specs.declared.Head.{Head}
use Rattle.reading.specs.declared.Reading.{Reading}
use Rattle.reading.specs.Reading.{Step, bmin_next, bmax_next, smax_next, ways_next, room_next, refs_next, kinds_next, begin_next, trace_next}
use Rattle.reading.specs.Reading.{with_stage, with_head, Desk, with_reading, world_of, with_world, Outcome, outcome, answered, stays}

-- one more thing that the head says
abbrev pub with_number : ℕ → ℕ → Head → Head
with_number place n h = record { numbers = set h.numbers place n; kinds = h.kinds }

abbrev pub with_kinds : Kinds → Head → Head
with_kinds k h = record { numbers = h.numbers; kinds = k }

-- an order's number stands at its own place
abbrev pub number_at : ℕ → ℕ → Reading → Step
number_at place n v =
    cond (eqb v.stage place) (answered done (with_stage (place + 1) (with_head (with_number place n v.head) v))) (answered bad_order_line v)

-- `kinds=` stands after the numbers, once
abbrev pub kinds_at : Kinds → Reading → Step
kinds_at k v = cond (eqb v.stage kinds_next) (answered done (with_stage begin_next (with_head (with_kinds k v.head) v))) (answered bad_order_line v)

-- the order of the six numbers
abbrev pub order_of : Reading → Order
order_of v = record {
  bmin = record { 0 = get_or v.head.numbers bmin_next 0 };
  bmax = record { 0 = get_or v.head.numbers bmax_next 0 };
  smax = get_or v.head.numbers smax_next 0;
  ways = get_or v.head.numbers ways_next 0;
  room = get_or v.head.numbers room_next 0;
  refs = get_or v.head.numbers refs_next 0;
}

-- the trace begins, over an opened order
abbrev pub begun : Order → Desk → Desk
begun o d = with_world (opened o (world_of d)) (with_reading (with_stage trace_next d.reading) d)

-- the begin line: limits are checked here, by opening the order
abbrev pub opening : Desk → Outcome
opening d =
    let n = open_answer (order_of d.reading) (world_of d) in
    outcome n (settled n (begun (order_of d.reading) d) d)

-- it stands after the numbers, or after `kinds=`
abbrev pub begin_at : Desk → Outcome
begin_at d = cond (eqb d.reading.stage kinds_next || eqb d.reading.stage begin_next) (opening d) (stays (answered bad_order_line d.reading) d)

abbrev pub order_step : Desk → OrderLine → Outcome
order_step d (Bmin n) = stays (number_at bmin_next n d.reading) d
order_step d (Bmax n) = stays (number_at bmax_next n d.reading) d
order_step d (Smax n) = stays (number_at smax_next n d.reading) d
order_step d (Ways n) = stays (number_at ways_next n d.reading) d
order_step d (Room n) = stays (number_at room_next n d.reading) d
order_step d (Refs n) = stays (number_at refs_next n d.reading) d
order_step d (Counting k) = stays (kinds_at k d.reading) d
order_step d Begin = begin_at d
order_step d (BadOrder n) = stays (answered n d.reading) d
