-- Lines of each form and their edges, over the definitions: each is computed. Assumes nothing.
use Prim.Native.Nat.{ℕ}
use mathlib.Core.Path.{◌≡◌, refl}
use mathlib.Core.List.{List, [], ◌∷◌, ◌++◌, map}
use lib.ListN.{replicate}
use Rattle.lines.specs.Bytes.{text}
use Rattle.lines.specs.TraceLine.{TraceLine, Ref, Escape, bad_at, in_address, in_gap, at_gap, at_label, trace_line_of}
use Rattle.lines.specs.OrderLine.{OrderLine, Bmin, Refs, Counting, Begin, Refused as RefusedOrder, starts_with, all_decimal, is_number, decimal, numbered, whole, order_line_of}
use Rattle.lines.specs.declared.Kind.TheVariants.{Read, Write, Fetch, Unknown}
use Rattle.lines.specs.declared.Kinds.TheVariants.{Data}

-- a comment of n bytes
abbrev comment : ℕ → List ℕ
comment n = replicate n 99

-- a trace line, and what it reads as
abbrev trace_table : List (List ℕ × TraceLine)
trace_table =
    (text "2 0", Ref Fetch (record { 0 = 0 }))
    ∷ (text "0 40", Ref Read (record { 0 = 64 }))
    ∷ (text "2 ffffffff", Ref Fetch (record { 0 = 4294967295 }))
    ∷ (text "1\t \t00aBcDeF", Ref Write (record { 0 = 11259375 }))
    ∷ (text "3 1 ", Ref Unknown (record { 0 = 1 }))
    ∷ (text "2 10 a comment\r", Ref Fetch (record { 0 = 16 }))
    ∷ (text "2 0 " ++ comment 251, Ref Fetch (record { 0 = 0 }))
    ∷ (text "4 0", Escape)
    ∷ (text "2 0 " ++ comment 252, bad_at 17 256)
    ∷ (comment 256, bad_at 17 256)
    ∷ (text "", bad_at 14 1)
    ∷ (text " 2 0", bad_at 14 1)
    ∷ (text "5 0", bad_at 14 1)
    ∷ (text "begin=din", bad_at 14 1)
    ∷ (text "4", bad_at 15 2)
    ∷ (text "22 0", bad_at 15 2)
    ∷ (text "2 ", bad_at 16 3)
    ∷ (text "2 \t x", bad_at 16 5)
    ∷ (text "2 0x10", bad_at 16 4)
    ∷ (text "2 10\r", bad_at 16 5)
    ∷ (text "2 10\0", bad_at 16 5)
    ∷ (text "2 123456789", bad_at 16 11)
    ∷ (text "2 000000010", bad_at 16 11)
    ∷ (text "2" ++ replicate 254 32, bad_at 16 256)
    ∷ []

pub trace_examples : map (λ e. trace_line_of e.0) trace_table ≡ map (λ e. e.1) trace_table
unfolding trace_line_of at_label at_gap in_gap in_address
trace_examples = refl

-- an order line, and what it reads as
abbrev order_table : List (List ℕ × OrderLine)
order_table =
    (text "bmin=4", Bmin 4)
    ∷ (text "bmin=0", Bmin 0)
    ∷ (text "refs=4000000000", Refs 4000000000)
    ∷ (text "refs=4294967300", Refs 4294967295)
    ∷ (text "refs=9999999999", Refs 4294967295)
    ∷ (text "kinds=data", Counting Data)
    ∷ (text "begin=din", Begin)
    ∷ (text "refs=10000000000", RefusedOrder 10)
    ∷ (text "bmin=04", RefusedOrder 10)
    ∷ (text "bmin=", RefusedOrder 10)
    ∷ (text "bmin=+4", RefusedOrder 10)
    ∷ (text "Bmin=4", RefusedOrder 10)
    ∷ (text "bmin=4\r", RefusedOrder 10)
    ∷ (text "kinds=", RefusedOrder 10)
    ∷ (text "begin=din ", RefusedOrder 10)
    ∷ (text "begin=di", RefusedOrder 10)
    ∷ (text "", RefusedOrder 10)
    ∷ []

pub order_examples : map (λ e. order_line_of e.0) order_table ≡ map (λ e. e.1) order_table
unfolding order_line_of numbered whole starts_with is_number all_decimal decimal
order_examples = refl
