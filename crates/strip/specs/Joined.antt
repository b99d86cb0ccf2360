-- What is given, as runs of addresses with a flush between two of them (SCOPE, "Strip" and "Flushing"): a strip covers one run, and what it
-- keeps of each is joined again. Assumes nothing.
use Rattle.std.specs.Prelude.{ℕ, ◌≡◌, List, [], ◌∷◌, ◌++◌, map, take}
use Rattle.lists.specs.Runs.{without}
use Rattle.cache.specs.Cache.{Given, ref, flush, events_of, simulate, is_hit}
use Rattle.units.specs.Refusals.{done}
use Rattle.strip.specs.Strip.{Stripped, Strips}

-- a flush, and then the run, for each of these runs
abbrev pub after_flushes : List (List ℕ) → List Given
after_flushes [] = []
after_flushes (r ∷ rs) = flush ∷ (map ref r ++ after_flushes rs)

-- the first run, and the others, each after a flush
abbrev pub joined_runs : List ℕ → List (List ℕ) → List Given
joined_runs r rs = map ref r ++ after_flushes rs

-- of what is given: the flushes, and the references that miss in the direct-mapped cache of 2^s sets, in order
abbrev pub kept_in : ℕ → ℕ → List Given → List Given
kept_in b s l = without is_hit (simulate s 1 (events_of b l)) l

-- some call of strip within its contract, over any filter and output, keeps k of the run r
pub record StripsTo (b s : ℕ) (r k : List ℕ) : Type 0 where
  pub table : List ℕ
  pub out : List ℕ
  pub reply : Stripped
  pub table' : List ℕ
  pub out' : List ℕ
  pub call : Strips r b s table out reply table' out'
  pub is_done : reply.answer ≡ done
  pub left : k ≡ take reply.kept out'
