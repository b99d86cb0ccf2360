-- What the two readers hand back, in the words of TraceLine and OrderLine: an Ok is a good line, and an Err is refused with the number
-- of its refusal. Assumes nothing.
use Rattle.std.specs.Prelude.{Result, Ok, Err}
use Rattle.units.specs.declared.refusal.Refusal.{Refusal}
use Rattle.units.specs.Refusals.{number_of}
use Rattle.lines.specs.TraceLine.{TraceLine, Ref, Escape, bad_at}
use Rattle.lines.specs.OrderLine.{OrderLine, Bmin, Bmax, Smax, Ways, Room, Refs, Counting, Begin, Refused}
use Rattle.lines.specs.declared.BadLine.{BadLine}
use Rattle.lines.specs.declared.TraceLine.{TraceLine as GoodTrace}
use Rattle.lines.specs.declared.TraceLine.TheVariants.{Ref as GoodRef, Escape as GoodEscape}
use Rattle.lines.specs.declared.OrderLine.{OrderLine as GoodOrder}
use Rattle.lines.specs.declared.OrderLine.TheVariants.{Bmin as GoodBmin, Bmax as GoodBmax, Smax as GoodSmax, Ways as GoodWays, Room as GoodRoom, Refs as GoodRefs, Kinds as GoodKinds, Begin as GoodBegin}

-- ---- a trace line

abbrev pub good_trace : GoodTrace → TraceLine
good_trace (GoodRef kind a) = Ref kind a
good_trace GoodEscape = Escape

abbrev pub bad_trace : BadLine → TraceLine
bad_trace bad = bad_at (number_of bad.refusal) bad.column

abbrev pub trace_read : Result GoodTrace BadLine → TraceLine
trace_read (Ok line) = good_trace line
trace_read (Err bad) = bad_trace bad

-- ---- an order line

abbrev pub good_order : GoodOrder → OrderLine
good_order (GoodBmin n) = Bmin n
good_order (GoodBmax n) = Bmax n
good_order (GoodSmax n) = Smax n
good_order (GoodWays n) = Ways n
good_order (GoodRoom n) = Room n
good_order (GoodRefs n) = Refs n
good_order (GoodKinds kinds) = Counting kinds
good_order GoodBegin = Begin

abbrev pub order_read : Result GoodOrder Refusal → OrderLine
order_read (Ok line) = good_order line
order_read (Err refusal) = Refused (number_of refusal)
