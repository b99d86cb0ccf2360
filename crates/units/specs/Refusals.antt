-- The refusal numbers, each defined once (SCOPE, "Refusal numbers", whose sentences stand beside them); 11 is no longer given.
-- Assumes nothing.
use Rattle.std.specs.Prelude.{ℕ, Bool, ◌&&◌, leb, Result, Ok, Err}
use Rattle.units.specs.declared.refusal.Refusal.{Refusal}
use Rattle.units.specs.declared.refusal.Refusal.TheVariants.{OutsideLimits, ShortStacks, ShortCounts, ForeignState, RefsReached, StackFull, CountOver, NotInOrder, NoReferences, BadOrderLine, ShortFilter, ShortOutput, BadLabel, BadGap, BadAddress, TooLong, TooManyLines}

-- done
abbrev pub done : ℕ
done = 0

-- an order number, or the b or s of a strip, is outside its limits
abbrev pub outside_limits : ℕ
outside_limits = 1

-- stack table shorter than the order needs
abbrev pub short_stacks : ℕ
short_stacks = 2

-- count table shorter than the order needs
abbrev pub short_counts : ℕ
short_counts = 3

-- the state has a used length above room for a block size of the order, or references above refs
abbrev pub foreign_state : ℕ
foreign_state = 4

-- the references taken equal refs
abbrev pub refs_reached : ℕ
refs_reached = 5

-- at some block size the block is new and its stack is full
abbrev pub stack_full : ℕ
stack_full = 6

-- a count to be raised is not below the references taken, or the hits to be summed exceed them
abbrev pub count_over : ℕ
count_over = 7

-- asked for a b, s or w that the order lacks
abbrev pub not_in_order : ℕ
not_in_order = 8

-- ratio asked with no references taken
abbrev pub no_references : ℕ
no_references = 9

-- an order line is malformed, out of place or missing
abbrev pub bad_order_line : ℕ
bad_order_line = 10

-- filter table shorter than 2^s entries
abbrev pub short_filter : ℕ
short_filter = 12

-- output shorter than the references kept
abbrev pub short_output : ℕ
short_output = 13

-- a trace line is malformed in its label
abbrev pub bad_label : ℕ
bad_label = 14

-- in the gap after the label
abbrev pub bad_gap : ℕ
bad_gap = 15

-- in its address, or in the byte right after it
abbrev pub bad_address : ℕ
bad_address = 16

-- a trace line is too long
abbrev pub too_long : ℕ
too_long = 17

-- the program's input has more than 4,294,967,295 lines
abbrev pub too_many_lines : ℕ
too_many_lines = 26

-- 14 to 17, which a trace line is refused with: they alone are told with a column
abbrev pub has_column : ℕ → Bool
has_column n = leb bad_label n && leb n too_long

-- ---- the refusals of the code, and what a call answers

abbrev pub number_of : Refusal → ℕ
number_of OutsideLimits = outside_limits
number_of ShortStacks = short_stacks
number_of ShortCounts = short_counts
number_of ForeignState = foreign_state
number_of RefsReached = refs_reached
number_of StackFull = stack_full
number_of CountOver = count_over
number_of NotInOrder = not_in_order
number_of NoReferences = no_references
number_of BadOrderLine = bad_order_line
number_of ShortFilter = short_filter
number_of ShortOutput = short_output
number_of BadLabel = bad_label
number_of BadGap = bad_gap
number_of BadAddress = bad_address
number_of TooLong = too_long
number_of TooManyLines = too_many_lines

-- 0, or the number of the refusal
abbrev pub answer_of : {A : Type 0} → Result A Refusal → ℕ
answer_of (Ok x) = done
answer_of (Err refusal) = number_of refusal
