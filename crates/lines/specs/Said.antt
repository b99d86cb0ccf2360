-- What each answer of the two readers says, case by case: the refusal number (SCOPE, "Refusal numbers"), 0 where the line is good; the column, 0
-- where none is told; and the values that the line gives. Two answers that say the same are the same. Assumes nothing.
use Rattle.std.specs.Prelude.{ℕ, List, [], ◌∷◌}
use Rattle.units.specs.Refusals.{done}
use Rattle.lines.specs.TraceLine.{TraceLine, Ref, Escape, Refused as BadTrace, label_of}
use Rattle.lines.specs.OrderLine.{OrderLine, Bmin, Bmax, Smax, Ways, Room, Refs, Counting, Begin, Refused as BadOrder, labels_of}

pub record Said : Type 0 where
  pub number : ℕ
  pub column : ℕ
  pub values : List ℕ

abbrev pub good : List ℕ → Said
good values = record { number = done; column = 0; values = values }

abbrev pub refused : ℕ → ℕ → Said
refused n column = record { number = n; column = column; values = [] }

-- a trace line: its label, and the address of a reference
abbrev pub trace_said : TraceLine → Said
trace_said (Ref kind a) = good (label_of kind ∷ a.0 ∷ [])
trace_said Escape = good (4 ∷ [])
trace_said (BadTrace bad) = refused bad.number bad.column

-- an order line: its place in the order, from 0 on, and then the number, or the labels that are counted
abbrev pub order_said : OrderLine → Said
order_said (Bmin n) = good (0 ∷ n ∷ [])
order_said (Bmax n) = good (1 ∷ n ∷ [])
order_said (Smax n) = good (2 ∷ n ∷ [])
order_said (Ways n) = good (3 ∷ n ∷ [])
order_said (Room n) = good (4 ∷ n ∷ [])
order_said (Refs n) = good (5 ∷ n ∷ [])
order_said (Counting kinds) = good (6 ∷ labels_of kinds)
order_said Begin = good (7 ∷ [])
order_said (BadOrder n) = refused n 0
