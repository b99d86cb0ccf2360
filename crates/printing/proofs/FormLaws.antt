-- The forms filled in are the lines, and a buffer with room for the longest line has room for each. Assumes nothing.
use Prim.Native.Nat.{ℕ, ◌≤◌}
use mathlib.Core.Path.{◌≡◌, refl, sym, ap, ◌∙◌, subst}
use mathlib.Core.Bool.{Bool, true, false, cond}
use mathlib.Core.List.{List, [], ◌∷◌}
use native.Mathlib.Omega.{arith}
use lib.Dec.{leb}
use lib.ListN.{length}
use lib.Seq.{length-take-le}
use borrow.Author.Tests.{le-leb}
use Rattle.units.specs.Refusals.{has_column}
use Rattle.lines.specs.Bytes.{text}
use Rattle.printing.specs.Printed.{fields_after, cache_line, refusal_line}
use Rattle.printing.specs.Forms.{filled, most, Puts, line_most, Prints}
use Rattle.printing.proofs.PutLaws.{length_puts, filled_most}

abbrev pub cache_form : List ℕ
cache_form = text "b=# s=# w=# misses=#\n"

abbrev pub refusal_form : List ℕ
refusal_form = text "refused=# line=#\n"

abbrev pub column_form : List ℕ
column_form = text "refused=# line=# column=#\n"

pub cache_form_lem : (b s w misses : ℕ) → filled cache_form (b ∷ s ∷ w ∷ misses ∷ []) ≡ cache_line b s w misses
unfolding filled fields_after
cache_form_lem b s w misses = refl

module _ (answer line column : ℕ) where
  pub refusal_form_lem : has_column answer ≡ false → filled refusal_form (answer ∷ line ∷ []) ≡ refusal_line answer line column
  unfolding filled fields_after
  refusal_form_lem e = simp e

  pub column_form_lem : has_column answer ≡ true → filled column_form (answer ∷ line ∷ column ∷ []) ≡ refusal_line answer line column
  unfolding filled fields_after
  column_form_lem e = simp e

-- room for the longest line is room for each
pub cache_most : most cache_form ≤ line_most
unfolding most
cache_most = omega arith

pub refusal_most : most refusal_form ≤ line_most
unfolding most
refusal_most = omega arith

pub column_most : most column_form ≤ line_most
unfolding most
column_most = omega arith

-- ---- a line put into a lent buffer

module _ (out : List ℕ) where
  -- a form, filled in from the start of the buffer on
  pub prints_form : line_most ≤ length out → (form numbers bytes : List ℕ) → filled form numbers ≡ bytes → most form ≤ line_most
      → (r : ℕ) (out' : List ℕ) → Puts (filled form numbers) 0 out r out' → Prints bytes out r out'
  prints_form h form numbers bytes e wide r out' p =
      let room : bytes ≡ cond (leb line_most (length out)) bytes [] = sym (ap (λ (t : Bool). cond t bytes []) (le-leb line_most (length out) h)) in
      let end = p.end in
      let same = length_puts (filled form numbers) 0 out r out' p in
      let fits : r ≤ length out' = omega (arith, filled_most form numbers) in
      record { puts = subst (λ (l : List ℕ). Puts l 0 out r out') (e ∙ room) p; counts = (fits, sym (length-take-le r out' fits)) }
