-- Bytes put into a buffer, one after the other. Assumes nothing.
use Prim.Native.Nat.{ℕ, suc, ◌+◌, ◌≤◌, ◌<◌}
use mathlib.Core.Path.{◌≡◌, refl, sym, ap, ap₂, ◌∙◌}
use mathlib.Core.Bool.{cond}
use mathlib.Core.List.{List, [], ◌∷◌, ◌++◌}
use native.Mathlib.Omega.{arith}
use native.Mathlib.Numerals.{add-one}
use lib.Dec.{eqb}
use Rattle.std.proofs.lemmas.List.{take_all}
use lib.ListN.{length, take, drop, get_or, set, length-append, length-set, drop_of_length-le}
use lib.Seq.{sets, sets-eq, drop-cons, length-sets}
use borrow.Rule.Slice.PartMut.{put_mid}
use Rattle.std.proofs.lemmas.Slice.{put_mid-paste}
use borrow.Author.Tests.{eq-eqb, ne_eqb}
use Rattle.lists.proofs.Cases.{cases}
use Rattle.printing.specs.Printed.{decimal_of}
use Rattle.printing.proofs.NumberLaws.{length_decimal}
use Rattle.printing.specs.Forms.{mark, filled_byte, numbers_left, filled, most, Puts}

pub sets_append : (out : List ℕ) (at : ℕ) (a b : List ℕ) → sets out at (a ++ b) ≡ sets (sets out at a) (at + length a) b
sets_append out at [] b = ap (λ (k : ℕ). sets out k b) (omega arith)
sets_append out at (x ∷ a) b =
    sets_append (set out at x) (suc at) a b ∙ ap (λ (k : ℕ). sets (sets (set out at x) (suc at) a) k b) (omega arith)

pub length_puts : (a : List ℕ) (at : ℕ) (out : List ℕ) (r : ℕ) (out' : List ℕ) → Puts a at out r out' → length out' ≡ length out
length_puts a at out r out' p = ap length p.written ∙ length-sets out at a

-- a text, in one piece
pub put_whole : (text : List ℕ) (at : ℕ) (out : List ℕ) (n : ℕ) (part : List ℕ) → at + length text ≤ length out → n ≡ length text → part ≡ text
    → Puts text at out (at + length text) (put_mid at n out part)
put_whole text at out n part h e same = record {
  end = refl;
  written =
      put_mid-paste at n out part text n same refl e
      ∙ ap (λ (k : ℕ). take at out ++ take k text ++ drop (at + k) out) e
      ∙ ap (λ (l : List ℕ). take at out ++ l ++ drop (at + length text) out) (take_all (length text) text (omega arith))
      ∙ sym (sets-eq text out at h);
}

-- ---- a form

-- its first i bytes are put, and these numbers are left
pub record Filling (form numbers out₀ : List ℕ) (i : ℕ) (left : List ℕ) (end : ℕ) (out : List ℕ) : Type 0 where
  pub same : length out ≡ length out₀
  pub room : end + most (drop i form) ≤ length out
  pub long : length (filled form numbers) ≡ end + length (filled (drop i form) left)
  pub written : sets out₀ 0 (filled form numbers) ≡ sets out end (filled (drop i form) left)

module _ (c : ℕ) (form : List ℕ) where
  mark_filled : (numbers : List ℕ) → c ≡ mark → filled (c ∷ form) numbers ≡ decimal_of (get_or numbers 0 0) ++ filled form (drop 1 numbers)
  unfolding filled
  mark_filled numbers e = simp (eq-eqb c mark e)

  byte_filled : (numbers : List ℕ) → (c ≡ mark → ⊥) → filled (c ∷ form) numbers ≡ c ∷ filled form numbers
  unfolding filled
  byte_filled numbers ne = simp (ne_eqb c mark ne)

  mark_most : c ≡ mark → most (c ∷ form) ≡ 20 + most form
  unfolding most
  mark_most e = simp (eq-eqb c mark e)

  byte_most : (c ≡ mark → ⊥) → most (c ∷ form) ≡ 1 + most form
  unfolding most
  byte_most ne = simp (ne_eqb c mark ne)

nothing_filled : (numbers : List ℕ) → filled [] numbers ≡ []
unfolding filled
nothing_filled numbers = refl

module _ (form numbers out₀ : List ℕ) where
  module _ (i : ℕ) (left : List ℕ) (end : ℕ) (out : List ℕ) (f : Filling form numbers out₀ i left end out) where
    module _ (h : i < length form) where
      next : drop i form ≡ get_or form i 0 ∷ drop (i + 1) form
      next = drop-cons form i 0 h ∙ ap (λ (m : ℕ). get_or form i 0 ∷ drop m form) (sym (add-one i))

      mark_next : get_or form i 0 ≡ mark → filled (drop i form) left ≡ decimal_of (get_or left 0 0) ++ filled (drop (i + 1) form) (drop 1 left)
      mark_next e = ap (λ (l : List ℕ). filled l left) next ∙ mark_filled (get_or form i 0) (drop (i + 1) form) left e

      byte_next : (get_or form i 0 ≡ mark → ⊥) → filled (drop i form) left ≡ get_or form i 0 ∷ filled (drop (i + 1) form) left
      byte_next ne = ap (λ (l : List ℕ). filled l left) next ∙ byte_filled (get_or form i 0) (drop (i + 1) form) left ne

      pub room_mark : get_or form i 0 ≡ mark → end + 20 + most (drop (i + 1) form) ≤ length out
      room_mark e = let r = f.room in omega (arith, ap most next ∙ mark_most (get_or form i 0) (drop (i + 1) form) e)

      pub room_byte : (get_or form i 0 ≡ mark → ⊥) → end + 1 + most (drop (i + 1) form) ≤ length out
      room_byte ne = let r = f.room in omega (arith, ap most next ∙ byte_most (get_or form i 0) (drop (i + 1) form) ne)

      pub fill_number : get_or form i 0 ≡ mark → (n : ℕ) (left' : List ℕ) → n ≡ get_or left 0 0 → left' ≡ drop 1 left
          → (end' : ℕ) (out' : List ℕ) → Puts (decimal_of n) end out end' out' → Filling form numbers out₀ (i + 1) left' end' out'
      fill_number e n left' is rest end' out' p =
          let d = decimal_of n in
          let more = filled (drop (i + 1) form) left' in
          let all : filled (drop i form) left ≡ d ++ more =
          mark_next e ∙ ap₂ (λ (m : ℕ) (l : List ℕ). decimal_of m ++ filled (drop (i + 1) form) l) (sym is) (sym rest) in
          let x = p.end in
          let y = f.same in
          let kept = length_puts d end out end' out' p in
          let some = length_decimal n in
          let wide = room_mark e in
          let l = f.long in
          record {
            same = omega arith;
            room = omega arith;
            long = omega (arith, ap length all ∙ length-append d more);
            written =
                f.written ∙ ap (sets out end) all ∙ sets_append out end d more
                ∙ ap₂ (λ (o : List ℕ) (m : ℕ). sets o m more) (sym p.written) (sym x);
          }

      pub fill_byte : (get_or form i 0 ≡ mark → ⊥) → Filling form numbers out₀ (i + 1) left (end + 1) (set out end (get_or form i 0))
      fill_byte ne =
          let more = filled (drop (i + 1) form) left in
          let kept = length-set out end (get_or form i 0) in
          let y = f.same in
          let wide = room_byte ne in
          let l = f.long in
          record {
            same = omega arith;
            room = omega arith;
            long = omega (arith, ap length (byte_next ne));
            written = f.written ∙ ap (sets out end) (byte_next ne) ∙ ap (λ (m : ℕ). sets (set out end (get_or form i 0)) m more) (sym (add-one end));
          }

    pub fill_all : length form ≤ i → Puts (filled form numbers) 0 out₀ end out
    fill_all h =
        let none : filled (drop i form) left ≡ [] =
        ap (λ (l : List ℕ). filled l left) (drop_of_length-le form {i = i} h) ∙ nothing_filled left in
        let l = f.long in
        record { end = omega (arith, ap length none); written = sym (f.written ∙ ap (sets out end) none) }

-- ---- how long a form is when it is filled

pub filled_most : (form numbers : List ℕ) → length (filled form numbers) ≤ most form
unfolding filled most
filled_most [] numbers = omega arith
filled_most (c ∷ form) numbers =
    let d = decimal_of (get_or numbers 0 0) in
    let some = length_decimal (get_or numbers 0 0) in
    let rest = filled_most form (numbers_left c numbers) in
    let all = length-append (filled_byte c numbers) (filled form (numbers_left c numbers)) in
    let part : length (filled_byte c numbers) ≤ cond (eqb c mark) 20 1 = cases (eqb c mark) (λ e. simp e some) (λ e. simp e (omega arith)) in
    omega (arith, all, rest, part)
