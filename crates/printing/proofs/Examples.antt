-- Some printed lines: each is computed. Assumes nothing.
use mathlib.Core.Path.{◌≡◌, refl}
use mathlib.Core.List.{[], ◌∷◌}
use Rattle.lines.specs.Bytes.{text}
use Rattle.printing.specs.Printed.{places_from, digits_of, fields_after, cache_line, refusal_line, decimal_of}

pub printed_examples : cache_line 4 1 2 5 ∷ cache_line 12 14 16 4000000000 ∷ refusal_line 26 4294967296 0 ∷ refusal_line 16 4294967295 256 ∷ decimal_of 0 ∷ []
    ≡ text "b=4 s=1 w=2 misses=5\n"
    ∷ text "b=12 s=14 w=16 misses=4000000000\n"
    ∷ text "refused=26 line=4294967296\n"
    ∷ text "refused=16 line=4294967295 column=256\n"
    ∷ text "0"
    ∷ []
unfolding places_from digits_of fields_after
printed_examples = refl
