-- Some inputs and their lines: each is computed. Assumes nothing.
use mathlib.Core.Path.{◌≡◌, refl}
use mathlib.Core.List.{[], ◌∷◌, map}
use Rattle.lines.specs.Bytes.{text}
use Rattle.feeding.specs.Lines.{lines_of}

pub line_examples : map lines_of (text "" ∷ text "\n" ∷ text "a" ∷ text "a\n" ∷ text "a\nbc" ∷ text "a\n\nbc\n" ∷ text "\na" ∷ [])
    ≡ [] ∷ ([] ∷ []) ∷ (text "a" ∷ []) ∷ (text "a" ∷ []) ∷ (text "a" ∷ text "bc" ∷ []) ∷ (text "a" ∷ [] ∷ text "bc" ∷ []) ∷ ([] ∷ text "a" ∷ []) ∷ []
unfolding lines_of
line_examples = refl
