-- The first wrong byte of a line, of any form of lines: from one byte to the next, and that there is one only. Assumes nothing.
use Prim.Native.Nat.{ℕ, suc, ◌+◌, ◌-◌, ◌≤◌, ◌<◌}
use mathlib.Core.Path.{◌≡◌, sym, ap, ◌∙◌, subst}
use mathlib.Core.Bool.{Bool, false, true≢false}
use mathlib.Core.List.{List, [], ◌∷◌, ◌++◌, append_assoc}
use native.Mathlib.Omega.{arith}
use lib.Dec.{ltb}
use lib.ListN.{length, take, drop}
use lib.Seq.{take-add}
use borrow.Author.Tests.{ltb-true, ltb-false}
use Rattle.lists.proofs.Cases.{cases}
use Rattle.lines.specs.Column.{CanGoOn, FirstWrong}

-- i bytes of the line can be continued, and with one byte more, or with the end there, they cannot
pub record WrongAfter (P : List ℕ → Bool) (line : List ℕ) (i : ℕ) : Type 0 where
  pub within : i ≤ length line
  pub before : CanGoOn P (take i line)
  pub byte : i < length line → CanGoOn P (take (suc i) line) → ⊥
  pub end : i ≡ length line → P line ≡ false

module _ (P : List ℕ → Bool) where
  -- the end
  pub wrong_end : CanGoOn P [] → P [] ≡ false → WrongAfter P [] 0
  wrong_end some e = record { within = omega arith; before = some; byte = λ h. absurd (omega arith); end = λ h. e }

  -- the first byte
  pub wrong_byte : (c : ℕ) (rest : List ℕ) → CanGoOn P [] → ((l : List ℕ) → P (c ∷ l) ≡ false) → WrongAfter P (c ∷ rest) 0
  wrong_byte c rest some none = record {
    within = omega arith;
    before = some;
    byte = λ h go. true≢false (sym go.1 ∙ none go.0);
    end = λ h. absurd (omega arith);
  }

  -- a later one, where the first leads to another form
  pub wrong_later : (Q : List ℕ → Bool) (c : ℕ) (rest : List ℕ) (i : ℕ) → ((l : List ℕ) → P (c ∷ l) ≡ Q l) → WrongAfter Q rest i
      → WrongAfter P (c ∷ rest) (suc i)
  wrong_later Q c rest i leads w = record {
    within = omega (arith, w.within);
    before = (w.before.0, leads (take i rest ++ w.before.0) ∙ w.before.1);
    byte = λ h go. w.byte (omega arith) (go.0, sym (leads (take (suc i) rest ++ go.0)) ∙ go.1);
    end = λ h. leads rest ∙ w.end (omega arith);
  }

  pub first_wrong : (line : List ℕ) (i : ℕ) → WrongAfter P line i → FirstWrong P line (1 + i)
  first_wrong line i w =
      let bytes : 1 + i - 1 ≡ i = omega arith in
      let more : 1 + i ≡ suc i = omega arith in
      record {
        first = omega arith;
        last = omega (arith, w.within);
        before = subst (λ (n : ℕ). CanGoOn P (take n line)) (sym bytes) w.before;
        byte = λ h go. w.byte (omega arith) (subst (λ (n : ℕ). CanGoOn P (take n line)) more go);
        end = λ h. w.end (omega arith);
      }

  -- fewer of the bytes can be continued too
  fewer : (line : List ℕ) (i j : ℕ) → i ≤ j → CanGoOn P (take j line) → CanGoOn P (take i line)
  fewer line i j h go =
      let more = take (j - i) (drop i line) in
      let all : j ≡ i + (j - i) = omega arith in
      let parts : take j line ≡ take i line ++ more = ap (λ (n : ℕ). take n line) all ∙ take-add i (j - i) line in
      (more ++ go.0, ap P (sym (append_assoc (take i line) more go.0) ∙ ap (◌++ go.0) (sym parts)) ∙ go.1)

  no_later : (line : List ℕ) (c c' : ℕ) → FirstWrong P line c → FirstWrong P line c' → c < c' → ⊥
  no_later line c c' w w' h = w.byte (omega (arith, w'.last)) (fewer line c (c' - 1) (omega arith) w'.before)

  -- a line is wrong first at one column only
  pub column_unique : (line : List ℕ) (c c' : ℕ) → FirstWrong P line c → FirstWrong P line c' → c ≡ c'
  column_unique line c c' w w' =
      cases (ltb c c')
      (λ e. absurd (no_later line c c' w w' (ltb-true c c' e)))
      (λ e. cases (ltb c' c) (λ f. absurd (no_later line c' c w' w (ltb-true c' c f))) (λ f. omega (arith, ltb-false c c' e, ltb-false c' c f)))
