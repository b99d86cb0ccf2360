-- Strip (SCOPE, "Strip"): what is kept of a list l of addresses at blocks of 2^b bytes and 2^s sets, when it is refused, and
-- what is left in the filter table and the output. Assumes nothing.
use Rattle.std.specs.Prelude.{ℕ, suc, ◌^◌, ◌≡◌, cond, not, List, [], ◌∷◌, ◌++◌, map, eqb, ltb, length, drop, Result}
use Rattle.std.specs.Result.{result_unwrap_or}
use Rattle.lists.specs.Members.{keep}
use Rattle.lists.specs.Runs.{without}
use Rattle.lists.specs.Tables.{zeroed, values_to}
use Rattle.lists.specs.Tests.{first_of, settled, all_le}
use Rattle.cache.specs.Cache.{block_of, set_of, simulate, touches_of, is_hit}
use Rattle.units.specs.declared.refusal.Refusal.{Refusal}
use Rattle.units.specs.Refusals.{outside_limits, short_filter, short_output, answer_of}
use Rattle.order.specs.Limits.{b_least, b_most, s_most}

-- ---- what is kept

-- the addresses whose reference misses in the direct-mapped cache of 2^s sets, in order
abbrev pub kept_of : ℕ → ℕ → List ℕ → List ℕ
kept_of b s l = without is_hit (simulate s 1 (touches_of b l)) l

-- ---- the refusals

-- b and s are within the order's limits: in each pair the first is at most the second
abbrev pub strip_limits : ℕ → ℕ → List (ℕ × ℕ)
strip_limits b s = (b_least, b) ∷ (b, b_most) ∷ (s, s_most) ∷ []

-- refused with 1: b or s is outside its limits; with 12: the filter is shorter than 2^s; with 13: the output is shorter than what is kept
abbrev pub strip_answer : List ℕ → ℕ → ℕ → List ℕ → List ℕ → ℕ
strip_answer l b s table out =
    first_of
    ((not (all_le (strip_limits b s)), outside_limits)
    ∷ (ltb (length table) (2 ^ s), short_filter)
    ∷ (ltb (length out) (length (kept_of b s l)), short_output)
    ∷ [])

-- ---- what is left in the tables

-- the last of a list plus one, or e where the list is empty
abbrev pub last_plus_one : ℕ → List ℕ → ℕ
last_plus_one e [] = e
last_plus_one e (x ∷ xs) = last_plus_one (suc x) xs

-- the last block of set i plus one, or zero where none came
abbrev pub entry_of : ℕ → ℕ → List ℕ → ℕ → ℕ
entry_of b s l i = last_plus_one 0 (keep (λ x. eqb i (set_of s x)) (map (block_of b) l))

-- done: the last block of each set plus one; refused with 13: the first 2^s entries zero; else as it was. Later entries are untouched
abbrev pub strip_filter : List ℕ → ℕ → ℕ → List ℕ → List ℕ → List ℕ
strip_filter l b s table out =
    settled (strip_answer l b s table out)
    (values_to (2 ^ s) (entry_of b s l) ++ drop (2 ^ s) table)
    (cond (eqb (strip_answer l b s table out) short_output) (zeroed (2 ^ s) table) table)

-- done: the kept addresses at the front, and the rest as it was; refused: as it was
abbrev pub strip_output : List ℕ → ℕ → ℕ → List ℕ → List ℕ → List ℕ
strip_output l b s table out = settled (strip_answer l b s table out) (kept_of b s l ++ drop (length (kept_of b s l)) out) out

-- done: how many were kept; refused: zero
abbrev pub strip_kept : List ℕ → ℕ → ℕ → List ℕ → List ℕ → ℕ
strip_kept l b s table out = settled (strip_answer l b s table out) (length (kept_of b s l)) 0

-- ---- the reply

-- how many references were kept, beside the answer number: 0 where that is not 0
pub record Stripped : Type 0 where
  pub answer : ℕ
  pub kept : ℕ

-- what a call says
abbrev pub stripped : Result ℕ Refusal → Stripped
stripped r = record { answer = answer_of r; kept = result_unwrap_or r 0 }

-- THE CONTRACT: the answer beside how many were kept, and both tables, on every input
pub record Strips (l : List ℕ) (b s : ℕ) (table out : List ℕ) (r : Stripped) (table' out' : List ℕ) : Type 0 where
  pub answer : r.answer ≡ strip_answer l b s table out
  pub kept : r.kept ≡ strip_kept l b s table out
  pub filter : table' ≡ strip_filter l b s table out
  pub output : out' ≡ strip_output l b s table out
