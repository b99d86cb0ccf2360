-- The worked input of SCOPE, "The worked trace", and its whole output, from bytes to bytes, over the definitions: computed. Assumes nothing.
use mathlib.Core.Path.{◌≡◌, refl}
use lib.ListN.{replicate}
use Rattle.lists.specs.Tests.{any_to, all_le}
use Rattle.cache.specs.Cache.{block_of, set_of}
use Rattle.lines.specs.Bytes.{text}
use Rattle.lines.specs.TraceLine.{in_address, in_gap, at_gap, at_label, trace_line_of}
use Rattle.lines.specs.OrderLine.{starts_with, all_decimal, is_number, decimal, numbered, whole, order_line_of}
use Rattle.reading.specs.Meaning.{given_in}
use Rattle.runs.specs.Input.{header_of, trace_of, meant_in}
use Rattle.runs.specs.Endings.{trace_ending, input_ending}
use Rattle.feeding.specs.Lines.{lines_of}
use Rattle.printing.specs.Grid.{each_from}
use Rattle.printing.specs.Printed.{places_from, digits_of, fields_after, lines_by}
use Rattle.printing.specs.Output.{printed_for}

pub worked : printed_for (replicate 8 0) (replicate 4 0)
    (text "bmin=4\nbmax=4\nsmax=1\nways=2\nroom=8\nrefs=100\nbegin=din\n2 0\n2 10\n2 20\n2 0\n2 14\n0 40\n2 0\n2 20")
    ≡ text "edition=2\nrefs=8\nskipped=0\nflushes=0\nb=4 s=0 w=1 misses=8\nb=4 s=0 w=2 misses=8\nb=4 s=1 w=1 misses=7\nb=4 s=1 w=2 misses=5\n"
unfolding input_ending trace_ending trace_line_of at_label at_gap in_gap in_address order_line_of numbered whole starts_with is_number all_decimal decimal
    block_of set_of any_to all_le header_of trace_of meant_in given_in lines_of places_from digits_of fields_after lines_by each_from
worked = refl
