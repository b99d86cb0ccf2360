-- The input of SCOPE and some of its edges, over the definitions: each is computed. Assumes nothing.
use Prim.Native.Nat.{ℕ}
use mathlib.Core.Path.{◌≡◌, refl}
use mathlib.Core.List.{List, [], ◌∷◌, ◌++◌, map}
use lib.ListN.{replicate}
use Rattle.lists.specs.Tests.{any_to, all_le}
use Rattle.cache.specs.Cache.{block_of, ref, flush}
use Rattle.taking.specs.Opening.{unopened}
use Rattle.lines.specs.Bytes.{text}
use Rattle.lines.specs.TraceLine.{in_address, in_gap, at_gap, at_label, trace_line_of}
use Rattle.lines.specs.OrderLine.{starts_with, all_decimal, is_number, decimal, numbered, whole, order_line_of}
use Rattle.reading.specs.Meaning.{given_in}
use Rattle.runs.specs.Input.{header_of, trace_of, meant_in, given_of}
use Rattle.runs.specs.Endings.{Ending, ends_at, trace_ending, input_ending}

-- the order's lines, of that room and those refs
abbrev order : List ℕ → List ℕ → List (List ℕ)
order room refs = text "bmin=4" ∷ text "bmax=4" ∷ text "smax=1" ∷ text "ways=2" ∷ room ∷ refs ∷ []

abbrev trace : List (List ℕ)
trace = text "2 0" ∷ text "2 10" ∷ text "2 20" ∷ text "2 0" ∷ text "2 14" ∷ text "0 40" ∷ text "2 0" ∷ text "2 20" ∷ []

abbrev begin : List (List ℕ)
begin = text "begin=din" ∷ []

-- an input, and its end
abbrev table : List (List (List ℕ) × Ending)
table =
    (order (text "room=8") (text "refs=100") ++ begin ++ trace, ends_at 0 15 0)
    ∷ (order (text "room=4") (text "refs=8") ++ begin ++ trace, ends_at 0 15 0)
    ∷ (order (text "room=4") (text "refs=8") ++ begin ++ trace ++ (text "2 50" ∷ []), ends_at 5 16 0)
    ∷ (order (text "room=4") (text "refs=9") ++ begin ++ trace ++ (text "2 50" ∷ []), ends_at 6 16 0)
    ∷ (order (text "room=4") (text "refs=9") ++ begin ++ trace ++ (text "2 4f" ∷ []), ends_at 0 16 0)
    ∷ (order (text "room=4") (text "refs=9") ++ (text "kinds=data" ∷ begin) ++ trace ++ (text "2 50" ∷ []), ends_at 0 17 0)
    ∷ (order (text "room=4") (text "refs=9") ++ begin ++ trace ++ (text "4 0" ∷ text "2 50" ∷ []), ends_at 0 17 0)
    ∷ (order (text "room=4") (text "refs=8") ++ begin ++ trace ++ (text "4 0" ∷ text "2 0" ∷ []), ends_at 5 17 0)
    ∷ (order (text "room=8") (text "refs=9") ++ begin ++ (text "4" ∷ []), ends_at 15 8 2)
    ∷ (order (text "room=8") (text "refs=9") ++ begin ++ (text "2 0" ∷ text "2 0x10" ∷ text "2 0" ∷ []), ends_at 16 9 4)
    ∷ (order (text "room=8") (text "refs=9") ++ begin ++ begin, ends_at 14 8 1)
    ∷ (order (text "room=9") (text "refs=9") ++ begin ++ trace, ends_at 2 7 0)
    ∷ (order (text "room=8") (text "refs=0") ++ begin ++ trace, ends_at 1 7 0)
    ∷ (order (text "room=8") (text "refs=9"), ends_at 10 7 0)
    ∷ (order (text "refs=9") (text "room=8") ++ begin, ends_at 10 5 0)
    ∷ ([], ends_at 10 1 0)
    ∷ []

pub input_examples : map (λ e. input_ending (unopened (replicate 8 0) (replicate 4 0)) [] e.0) table ≡ map (λ e. e.1) table
unfolding input_ending trace_ending meant_in block_of any_to all_le trace_line_of at_label at_gap in_gap in_address
    order_line_of numbered whole starts_with is_number all_decimal decimal
input_examples = refl

abbrev counting : List (List ℕ) → List (List ℕ)
counting kinds = order (text "room=8") (text "refs=9") ++ kinds ++ begin ++ trace

-- a flush is given under every kind
abbrev flushing : List (List ℕ) → List (List ℕ)
flushing kinds = order (text "room=8") (text "refs=9") ++ kinds ++ begin ++ (text "0 40" ∷ text "4 ff" ∷ text "2 0" ∷ [])

pub flush_examples : map given_of (flushing [] ∷ flushing (text "kinds=data" ∷ []) ∷ flushing (text "kinds=fetch" ∷ []) ∷ [])
    ≡ (ref 64 ∷ flush ∷ ref 0 ∷ []) ∷ (ref 64 ∷ flush ∷ []) ∷ (flush ∷ ref 0 ∷ []) ∷ []
unfolding header_of trace_of meant_in given_in trace_line_of at_label at_gap in_gap in_address order_line_of numbered whole starts_with is_number all_decimal decimal
flush_examples = refl

pub reference_examples : map given_of (counting [] ∷ counting (text "kinds=data" ∷ []) ∷ [])
    ≡ map (map ref) ((0 ∷ 16 ∷ 32 ∷ 0 ∷ 20 ∷ 64 ∷ 0 ∷ 32 ∷ []) ∷ (64 ∷ []) ∷ [])
unfolding header_of trace_of meant_in given_in trace_line_of at_label at_gap in_gap in_address order_line_of numbered whole starts_with is_number all_decimal decimal
reference_examples = refl
