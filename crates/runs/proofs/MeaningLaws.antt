-- What lines of the trace come to: of every line, in each case; of one line more; and on a desk, what those so far have left there.
-- Assumes nothing.
use Prim.Native.Nat.{ℕ, suc, ◌+◌, ◌≤◌, ◌<◌}
use mathlib.Core.Path.{◌≡◌, refl, sym, ap, ap₂, ◌∙◌}
use mathlib.Core.Bool.{true}
use mathlib.Core.List.{List, [], ◌∷◌, ◌++◌, append_assoc, append-nil}
use native.Mathlib.Omega.{arith}
use lib.ListN.{length, length-append}
use Rattle.lists.specs.Sums.{total}
use Rattle.lists.proofs.Cases.{picked}
use Rattle.lists.proofs.SumLaws.{total_append}
use Rattle.cache.specs.Cache.{Given, ref, flush, referred, flushed}
use Rattle.units.specs.Refusals.{bad_label, bad_gap, bad_address, too_long}
use Rattle.lines.specs.Bytes.{past_longest}
use Rattle.lines.specs.declared.Kinds.{Kinds}
use Rattle.lines.specs.TraceLine.{TraceLine}
use Rattle.lines.specs.OrderLine.{counts_kind}
use Rattle.lines.proofs.CaseLaws.{trace_cases}
use Rattle.reading.specs.declared.Tally.{Tally}
use Rattle.reading.specs.Meaning.{Meaning, gives, skips, fails, meant, meaning_of, tallied, given_by, given_in, skipped_by, tallied_in}
use Rattle.reading.specs.Reading.{Desk, world_of}
use Rattle.reading.specs.Step.{in_trace, lines_most}
use Rattle.runs.specs.Input.{meant_in}
use Rattle.calls.proofs.HistoryLaws.{History}

-- what holds in each case holds of what every line comes to: one that is bad has number 14, 15, 16 or 17
abbrev bad : ℕ → ℕ → Meaning
bad number column = fails (record { number = number; column = column })

pub meaning_cases : (P : Meaning → Type 0) → ((g : Given) → P (gives g)) → P skips
    → ((column : ℕ) → P (bad bad_label column) × P (bad bad_gap column) × P (bad bad_address column) × P (bad too_long column))
    → (kinds : Kinds) (line : List ℕ) → P (meaning_of kinds line)
meaning_cases P given skipped failed kinds line =
    trace_cases (λ (t : TraceLine). P (meant kinds t))
    (λ kind a. picked P (counts_kind kinds kind) (λ e. given (ref a.0)) (λ e. skipped))
    (given flush) (failed 1).0 (failed 2).1 (λ k h. (failed k).2) (failed past_longest).3 line

pub meant_length : (kinds : Kinds) (lines : List (List ℕ)) → length (meant_in kinds lines) ≡ length lines
unfolding meant_in
meant_length kinds [] = refl
meant_length kinds (line ∷ more) = ap suc (meant_length kinds more)

-- ---- what they give

given_append : (a b : List Meaning) → given_in (a ++ b) ≡ given_in a ++ given_in b
unfolding given_in
given_append [] b = refl
given_append (m ∷ a) b = ap (given_by m ++◌) (given_append a b) ∙ sym (append_assoc (given_by m) (given_in a) (given_in b))

pub given_more : (past : List Meaning) (m : Meaning) → given_in (past ++ (m ∷ [])) ≡ given_in past ++ given_by m
unfolding given_in
given_more past m = given_append past (m ∷ []) ∙ ap (given_in past ++◌) (append-nil (given_by m))

-- ---- each is told once: it is a reference, it is skipped, or it flushes

abbrev pub told_by : Meaning → ℕ
told_by m = total referred (given_by m) + skipped_by m + total flushed (given_by m)

-- every one of them is
abbrev pub AllTold : List Meaning → Type 0
AllTold l = total told_by l ≡ length l

pub told_more : (past : List Meaning) (m : Meaning) → told_by m ≡ 1 → AllTold past → AllTold (past ++ (m ∷ []))
told_more past m one all = omega (arith, one, all, total_append told_by past (m ∷ []), length-append past (m ∷ []))

pub told_given : (g : Given) → told_by (gives g) ≡ 1
told_given (ref a) = refl
told_given flush = refl

told_most : (m : Meaning) → told_by m ≤ 1
told_most (gives g) = omega (arith, told_given g)
told_most skips = omega arith
told_most (fails bad) = omega arith

told_few : (l : List Meaning) → total told_by l ≤ length l
told_few [] = omega arith
told_few (m ∷ l) = omega (arith, told_few l, told_most m)

told_total : (l : List Meaning) → total told_by l ≡ total referred (given_in l) + total skipped_by l + total flushed (given_in l)
unfolding given_in
told_total [] = refl
told_total (m ∷ l) = omega (arith, told_total l, total_append referred (given_by m) (given_in l), total_append flushed (given_by m) (given_in l))

-- so the references, the skipped and the flushes add up to the lines
pub told_in_all : (l : List Meaning) → AllTold l → total referred (given_in l) + (tallied_in l).skipped + (tallied_in l).flushes ≡ length l
told_in_all l all = sym (told_total l) ∙ all

-- ---- their tally

abbrev tally_of : ℕ → ℕ → Tally
tally_of skipped flushes = record { skipped = skipped; flushes = flushes }

pub tally_none : tally_of 0 0 ≡ tallied_in []
unfolding given_in
tally_none = refl

tally_is : (past : List Meaning) (m : Meaning) (n k : ℕ) → n ≡ total skipped_by past + skipped_by m
    → k ≡ total flushed (given_in past) + total flushed (given_by m) → tally_of n k ≡ tallied_in (past ++ (m ∷ []))
tally_is past m n k p q =
    ap₂ tally_of (omega (arith, p, total_append skipped_by past (m ∷ [])))
    (q ∙ sym (total_append flushed (given_in past) (given_by m)) ∙ ap (total flushed) (sym (given_more past m)))

-- one more is counted, for no count stops short
pub tally_more : (past : List Meaning) (m : Meaning) → length past < lines_most → tallied m (tallied_in past) ≡ tallied_in (past ++ (m ∷ []))
tally_more past (gives (ref a)) fits = tally_is past (gives (ref a)) _ _ (omega arith) (omega arith)
tally_more past (gives flush) fits = tally_is past (gives flush) _ _ (omega arith) (omega (arith, told_few past, told_total past))
tally_more past skips fits = tally_is past skips _ _ (omega (arith, told_few past, told_total past)) (omega arith)
tally_more past (fails bad) fits = tally_is past (fails bad) _ _ (omega arith) (omega arith)

-- ---- on a desk

-- the lines of the trace so far come to `past`: what they give was taken, each was told, and none was bad
pub record Stands (d : Desk) (past : List Meaning) : Type 0 where
  pub trace : in_trace d.reading ≡ true
  pub history : History (world_of d) (given_in past)
  pub tally : d.reading.tally ≡ tallied_in past
  pub clear : d.reading.column ≡ 0
  pub told : AllTold past
