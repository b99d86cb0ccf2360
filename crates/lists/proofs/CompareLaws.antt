-- Comparisons as tests: with a number that was computed, within a range, and of a number that is cut off at a largest one.
-- Not here: tests in a row (TestLaws). Assumes nothing.
use Prim.Native.Nat.{ℕ, ◌≤◌, ◌<◌, min}
use mathlib.Core.Path.{◌≡◌, sym, ◌∙◌}
use mathlib.Core.Bool.{true, false, ◌&&◌, false≢true}
use native.Mathlib.Omega.{arith}
use lib.Dec.{ltb, leb}
use borrow.Author.Tests.{lt-ltb, le-ltb, leb-true, leb-false, le-leb, lt-leb}
use Rattle.lists.proofs.Cases.{cases}

-- ---- a table of n entries, compared with a need m that was computed as r

pub short_of : {n r m : ℕ} → r ≡ m → n < r → ltb n m ≡ true
short_of {n} {r} {m} e h = lt-ltb n m (omega arith)

pub long_of : {n r m : ℕ} → r ≡ m → r ≤ n → ltb n m ≡ false
long_of {n} {r} {m} e h = le-ltb n m (omega arith)

-- ---- a range, from `low` to `high`

pub range_facts : (low high c : ℕ) → leb low c && leb c high ≡ true → (low ≤ c) × (c ≤ high)
range_facts low high c h =
    cases (leb low c)
    (λ e. (leb-true low c e, leb-true c high (simp e at h)))
    (λ e. absurd (false≢true (simp e at h)))

-- ---- a number cut off at `most` is within a smaller limit exactly where the number itself is, from above and from below

pub at_most_cut : (v most limit : ℕ) → limit < most → leb (min v most) limit ≡ leb v limit
at_most_cut v most limit h =
    cases (leb v limit)
    (λ e. let f = leb-true v limit e in le-leb (min v most) limit (omega arith) ∙ sym e)
    (λ e. let f = leb-false v limit e in lt-leb (min v most) limit (omega arith) ∙ sym e)

pub at_least_cut : (v most limit : ℕ) → limit ≤ most → leb limit (min v most) ≡ leb limit v
at_least_cut v most limit h =
    cases (leb limit v)
    (λ e. let f = leb-true limit v e in le-leb limit (min v most) (omega arith) ∙ sym e)
    (λ e. let f = leb-false limit v e in lt-leb limit (min v most) (omega arith) ∙ sym e)
