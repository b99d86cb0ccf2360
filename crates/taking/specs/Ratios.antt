-- The two ratios, handed back together (SCOPE, "Questions"): refused as misses are, then with 9 where no references are taken.
-- Assumes nothing.
use Rattle.std.specs.Prelude.{ℕ, ◌*◌, ◌^◌, false, cond, not, List, [], ◌∷◌, eqb, Float, pos}
use Rattle.std.specs.Result.{result_unwrap_or}
use Rattle.std.specs.Float.{fin, binary64}
use Rattle.std.specs.Float.Ieee.{round}
use Rattle.lists.specs.Tests.{first_of}
use Rattle.units.specs.Refusals.{no_references, answer_of}
use Rattle.taking.specs.Questions.{Counted, misses_of}
use Rattle.taking.specs.declared.Opened.{Opened}
use Rattle.taking.specs.declared.Reply.{Reply}
use Rattle.taking.specs.declared.Ratios.{Ratios}

-- the binary64 number nearest to the exact fraction m / n, ties to even: one rounding
abbrev pub nearest_to : ℕ → ℕ → Float
nearest_to m n = round binary64 false m n

-- m misses in n references, at blocks of 2^b bytes. The traffic ratio is 2^b times the miss ratio: that is exact, so it too is one rounding
abbrev pub ratios_at : ℕ → ℕ → ℕ → Ratios
ratios_at m n b = record { miss = nearest_to m n; traffic = nearest_to (m * 2 ^ b) n }

-- zeros, beside a refusal
abbrev pub no_ratios : Ratios
no_ratios = record { miss = fin false 0 (pos 0); traffic = fin false 0 (pos 0) }

-- both ratios, beside the answer number: zeros where that is not 0. The state is as it was handed in
pub record Rated : Type 0 where
  pub state : Opened
  pub answer : ℕ
  pub ratios : Ratios

-- what is handed back, as the document has it: 0 or the number of a refusal, and two zeros beside one
abbrev pub rated_as : Reply Ratios → Rated
rated_as r = record { state = r.state; answer = answer_of r.answer; ratios = result_unwrap_or r.answer no_ratios }

-- refused as misses, whose answer is c, then with 9
abbrev pub ratios_answer : Counted → ℕ → ℕ
ratios_answer c taken = first_of ((not (eqb c.answer 0), c.answer) ∷ (eqb taken 0, no_references) ∷ [])

-- the state as it was handed in, and the ratios where none of these applies
abbrev pub ratios_from : Counted → ℕ → ℕ → Rated
ratios_from c taken b = record {
  state = c.state;
  answer = ratios_answer c taken;
  ratios = cond (eqb (ratios_answer c taken) 0) (ratios_at c.misses taken b) no_ratios;
}

-- the ratios of the cache (b, s, w)
abbrev pub ratios_of : Opened → List ℕ → ℕ → ℕ → ℕ → Rated
ratios_of v ct b s w = ratios_from (misses_of v ct b s w) v.taken b
