-- The machine of bytes, of any reader: what one byte does in each case, and what a run of bytes that belong to one line does. Assumes nothing.
use Prim.Native.Nat.{ℕ, suc, ◌+◌, ◌≤◌, ◌<◌}
use mathlib.Core.Path.{◌≡◌, refl, ap, ap₂, ◌∙◌}
use mathlib.Core.Bool.{true, false}
use mathlib.Core.List.{List, [], ◌∷◌, ◌++◌}
use native.Mathlib.Omega.{arith}
use native.Mathlib.Numerals.{add-one}
use lib.Dec.{eqb}
use lib.ListN.{length, get_or, set}
use lib.Seq.{sets}
use borrow.Author.Tests.{eq-eqb, ne_eqb, le-leb, lt-leb}
use Rattle.lists.proofs.Cases.{cases}
use Rattle.lines.specs.Bytes.{longest}
use Rattle.feeding.specs.Lines.{lf}
use Rattle.feeding.specs.Machine.{Reader, Held, held, line_refused, line_ends, feed_byte, fed, last_line, input_ends, finished}

-- what the laws ask of a reader: a line refused before it ends is refused as the whole line would be, whatever it says
pub record Sound {S : Type 0} (r : Reader S) : Type 0 where
  pub many : (s : S) (x : List ℕ) → r.is_many s ≡ true → r.unread s ≡ r.read s x
  pub long : (s : S) (x : List ℕ) → longest < length x → r.unread s ≡ r.read s x
  pub over : (s : S) → r.is_over (r.unread s) ≡ true

-- ---- after a refusal

module _ {S : Type 0} (r : Reader S) (d : Held S) (over : r.is_over d.state ≡ true) where
  byte_over : (b : ℕ) → feed_byte r d b ≡ d
  unfolding feed_byte
  byte_over b = simp over

  pub over_stays : (bytes : List ℕ) → fed r d bytes ≡ d
  over_stays [] = refl
  over_stays (b ∷ more) = ap (λ (x : Held S). fed r x more) (byte_over b) ∙ over_stays more

  pub over_last : last_line r d ≡ d
  over_last = cases (eqb d.len 0) (λ e. simp e) (λ e. simp e (byte_over lf))

  pub over_finished : finished r d ≡ d
  over_finished = let stays : input_ends r d ≡ d = simp over in ap (input_ends r) over_last ∙ stays

-- ---- one byte, where nothing is refused yet

module _ {S : Type 0} (r : Reader S) (s : S) (n : ℕ) (line : List ℕ) (goes : r.is_over s ≡ false) where
  pub byte_many : r.is_many s ≡ true → (b : ℕ) → feed_byte r (held s n line) b ≡ line_refused r (held s n line)
  unfolding feed_byte
  byte_many e b = simp (goes, e)

  module _ (few : r.is_many s ≡ false) (b : ℕ) where
    pub byte_lf : eqb b lf ≡ true → feed_byte r (held s n line) b ≡ line_ends r (held s n line)
    unfolding feed_byte
    byte_lf e = simp (goes, few, e)

    pub byte_long : eqb b lf ≡ false → longest ≤ n → feed_byte r (held s n line) b ≡ line_refused r (held s n line)
    unfolding feed_byte
    byte_long e h = simp (goes, few, e, le-leb longest n h) refl

    pub byte_kept : eqb b lf ≡ false → n < longest → feed_byte r (held s n line) b ≡ held s (n + 1) (set line n b)
    unfolding feed_byte
    byte_kept e h = simp (goes, few, e, lt-leb longest n h) refl

-- ---- bytes that belong to one line

module _ {S : Type 0} (r : Reader S) (s : S) (goes : r.is_over s ≡ false) (few : r.is_many s ≡ false) where
  pub part_kept : (part : List ℕ) (n : ℕ) (line rest : List ℕ) → ((i : ℕ) → i < length part → get_or part i 0 ≡ lf → ⊥) → n + length part ≤ longest
      → fed r (held s n line) (part ++ rest) ≡ fed r (held s (n + length part) (sets line n part)) rest
  part_kept [] n line rest none h = ap (λ (k : ℕ). fed r (held s k line) rest) (omega arith)
  part_kept (b ∷ part) n line rest none h =
      ap (λ (x : Held S). fed r x (part ++ rest)) (byte_kept r s n line goes few b (ne_eqb b lf (none 0 (omega arith))) (omega arith))
      ∙ part_kept part (n + 1) (set line n b) rest (λ i z. none (suc i) (omega arith)) (omega arith)
      ∙ ap₂ (λ (k : ℕ) (l : List ℕ). fed r (held s k l) rest) (omega arith) (ap (λ (k : ℕ). sets (set line n b) k part) (add-one n))

-- ---- the next byte, where nothing is refused yet

module _ {S : Type 0} (r : Reader S) (sound : Sound r) (s : S) (n : ℕ) (line : List ℕ) (goes : r.is_over s ≡ false) (b : ℕ) (more : List ℕ) where
  abbrev d : Held S
  d = held s n line

  next_refused : feed_byte r d b ≡ line_refused r d → fed r d (b ∷ more) ≡ line_refused r d
  next_refused e = ap (λ (x : Held S). fed r x more) e ∙ over_stays r (line_refused r d) (sound.over s) more

  pub next_many : r.is_many s ≡ true → fed r d (b ∷ more) ≡ line_refused r d
  next_many e = next_refused (byte_many r s n line goes e b)

  pub next_long : r.is_many s ≡ false → (b ≡ lf → ⊥) → longest ≤ n → fed r d (b ∷ more) ≡ line_refused r d
  next_long few ne long = next_refused (byte_long r s n line goes few b (ne_eqb b lf ne) long)

  pub next_lf : r.is_many s ≡ false → b ≡ lf → fed r d (b ∷ more) ≡ fed r (line_ends r d) more
  next_lf few end = ap (λ (x : Held S). fed r x more) (byte_lf r s n line goes few b (eq-eqb b lf end))
