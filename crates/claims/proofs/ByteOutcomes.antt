-- What the laws of bytes come to for the program's reader, put as the claims say it. Assumes nothing.
use Prim.Native.Nat.{ℕ, ◌<◌}
use mathlib.Core.Path.{◌≡◌, ap}
use mathlib.Core.Bool.{true, false, not}
use mathlib.Core.List.{List, ◌∷◌, ◌++◌}
use lib.Dec.{eqb}
use lib.ListN.{length, get_or}
use borrow.Author.Tests.{eq-eqb}
use Rattle.reading.specs.Reading.{Outcome, stays}
use Rattle.reading.specs.Step.{is_too_many, long_line}
use Rattle.feeding.specs.Calls.{Calls}
use Rattle.feeding.specs.Feeding.{by_lines, start as noByte}
use Rattle.feeding.specs.Lines.{lf, lines_of, joined}
use Rattle.feeding.specs.Machine.{Held, held, fed}
use Rattle.feeding.proofs.InputLaws.{many_at_once, long_at_once}
use Rattle.feeding.proofs.RunLaws.{sound, bytes_runs}
use Rattle.printing.specs.Output.{printed_for}
use Rattle.printing.specs.Printed.{output_of}
use Rattle.printing.proofs.OutputLaws.{run_printed}

module _ (st ct : List ℕ) (slices : List (List ℕ)) (d : Held Outcome) (feeds : Calls noByte st ct slices d) where
  pub bytes_printed : output_of d.state.answer d.state.left.reading d.state.left.counts ≡ printed_for st ct (joined slices)
  bytes_printed = run_printed st ct (lines_of (joined slices)) d.state (bytes_runs feeds)

module _ (o : Outcome) (line : List ℕ) (goes : o.answer ≡ 0) (rest : List ℕ) where
  still : not (eqb o.answer 0) ≡ false
  still = ap not (eq-eqb o.answer 0 goes)

  pub many_ends : is_too_many o.left.reading ≡ true → (b : ℕ)
      → (fed by_lines (held o 0 line) (b ∷ rest)).state ≡ stays (long_line o.left.reading) o.left
  many_ends many b = many_at_once by_lines sound o line still many b rest

  pub long_ends : is_too_many o.left.reading ≡ false → (part : List ℕ) → length part ≡ 255
      → ((i : ℕ) → i < length part → get_or part i 0 ≡ lf → ⊥) → (b : ℕ) → (b ≡ lf → ⊥)
      → (fed by_lines (held o 0 line) (part ++ (b ∷ rest))).state ≡ stays (long_line o.left.reading) o.left
  long_ends few part long none b ne = long_at_once by_lines sound o line still few part long none b ne rest
