-- `head_lines` meets its contract: its form, filled in. Assumes nothing.
use Prim.Native.Nat.{ℕ, ◌≤◌}
use mathlib.Core.Path.{◌≡◌, sym}
use mathlib.Core.List.{List, [], ◌∷◌, ◌++◌, append_assoc}
use native.Mathlib.Omega.{arith}
use Rattle.lines.specs.Bytes.{text}
use Rattle.reading.specs.declared.Tally.{Tally}
use Rattle.printing.specs.Printed.{decimal_of, fields_after, head_lines}
use Rattle.printing.specs.Forms.{filled, most, line_most}
use Rattle.printing.proofs.FormLaws.{prints_form}
use Rattle.printing.proofs.head_lines.Goals as goal

abbrev head_form : List ℕ
head_form = text "edition=#\nrefs=#\nskipped=#\nflushes=#\n"

-- its numbers, in their order
abbrev numbers_of : ℕ → Tally → List ℕ
numbers_of refs tally = 2 ∷ refs ∷ tally.skipped ∷ tally.flushes ∷ []

heads : (a b c d : List ℕ)
    → (text "edition=" ++ (a ++ (10 ∷ [])))
    ++ ((text "refs=" ++ (b ++ (10 ∷ []))) ++ ((text "skipped=" ++ (c ++ (10 ∷ []))) ++ (text "flushes=" ++ (d ++ (10 ∷ [])))))
    ≡ text "edition=" ++ (a ++ (10 ∷ (text "refs=" ++ (b ++ (10 ∷ (text "skipped=" ++ (c ++ (10 ∷ (text "flushes=" ++ (d ++ (10 ∷ [])))))))))))
heads a b c d = simp append_assoc

head_form_lem : (refs : ℕ) (tally : Tally) → filled head_form (numbers_of refs tally) ≡ head_lines refs tally
unfolding filled fields_after
head_form_lem refs tally = sym (heads (decimal_of 2) (decimal_of refs) (decimal_of tally.skipped) (decimal_of tally.flushes))

-- room for the longest line is room for it
head_most : most head_form ≤ line_most
unfolding most
head_most = omega arith

pub fill-requires : goal.fill-requires
fill-requires c = let wide = c.if-out-lt-LINE_MOST.false in omega (arith, head_most)

pub returns : goal.returns
returns c =
    let a = c.args in
    let k = c.fill in
    prints_form a.out.now c.if-out-lt-LINE_MOST.false head_form (numbers_of a.refs a.tally)
    (head_lines a.refs a.tally) (head_form_lem a.refs a.tally) head_most k.result k.new.out k.ensures
