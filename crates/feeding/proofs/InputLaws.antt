-- Every input, of any reader: the machine over the bytes ends as the reader does over their lines. Assumes nothing.
use Prim.Native.Nat.{ℕ, ◌+◌, ◌≤◌, ◌<◌}
use mathlib.Core.Path.{◌≡◌, refl, sym, ap, ◌∙◌, subst}
use mathlib.Core.Bool.{Bool, true, false, cond}
use mathlib.Core.List.{List, [], ◌∷◌, ◌++◌}
use native.Mathlib.Omega.{arith}
use native.Mathlib.Numerals.{add-one}
use lib.Dec.{eqb, leb}
use lib.ListN.{length, take, set, length-set, length-append, get_or}
use lib.Seq.{length-take-le, take-suc-set, sets}
use borrow.Author.Tests.{ne_eqb, eqb-true, eqb-false, leb-true, leb-false}
use Rattle.lists.proofs.Cases.{cases}
use Rattle.lists.proofs.RunLaws.{after_append}
use Rattle.lines.specs.Bytes.{longest}
use Rattle.feeding.specs.Lines.{lf, lines_of}
use Rattle.feeding.specs.Machine.{Reader, Held, held, line_refused, line_ends, feed_byte, fed, last_line, input_ends, finished, run_over}
use Rattle.feeding.proofs.LineLaws.{lines_from, First, first_line, first_longer, lines_from_lem, lines_alone, lines_lf, lines_byte, lines_none}
use Rattle.feeding.proofs.ByteLaws.{Sound, over_stays, over_last, over_finished, byte_many, byte_lf, byte_long, byte_kept, part_kept}

module _ {S : Type 0} (r : Reader S) (sound : Sound r) where
  -- the run from what a line leaves on
  abbrev goes_on : S → List (List ℕ) → S
  goes_on s more = cond (r.is_over s) s (run_over r s more)

  run_on : (s : S) (x : List ℕ) (more : List (List ℕ)) → run_over r s (x ∷ more) ≡ goes_on (r.read s x) more
  unfolding run_over
  run_on s x more = refl

  run_refused : (s : S) (x : List ℕ) (more : List (List ℕ)) → r.unread s ≡ r.read s x → run_over r s (x ∷ more) ≡ r.unread s
  run_refused s x more e =
      run_on s x more ∙ ap (λ (y : S). goes_on y more) (sym e) ∙ ap (λ (t : Bool). cond t (r.unread s) (run_over r (r.unread s) more)) (sound.over s)

  -- the machine ends as the lines do
  abbrev Ends : Held S → S → List (List ℕ) → Type 0
  Ends d s lines = (finished r d).state ≡ run_over r s lines

  module _ (s : S) (n : ℕ) (line : List ℕ) (goes : r.is_over s ≡ false) where
    abbrev here : Held S
    here = held s n line

    -- a line that is refused before it ends
    ends_refused : (lines : List (List ℕ)) (l : List ℕ) → First l lines → ((x : List ℕ) → length l ≤ length x → r.unread s ≡ r.read s x)
        → (bytes : List ℕ) → Ends (fed r (line_refused r here) bytes) s lines
    ends_refused lines l f same bytes =
        let d = line_refused r here in
        ap (λ (x : Held S). (finished r x).state) (over_stays r d (sound.over s) bytes)
        ∙ ap (λ (x : Held S). x.state) (over_finished r d (sound.over s))
        ∙ sym (ap (run_over r s) f.split ∙ run_refused s f.line f.more (same f.line f.long))

    -- the LF of a line: the machine goes on as the run does
    ends_lf : (b : ℕ) → eqb b lf ≡ true → r.is_many s ≡ false → (bytes : List ℕ)
        → ((t : S) → r.is_over t ≡ false → Ends (fed r (held t 0 line) bytes) t (lines_from [] bytes))
        → Ends (fed r here (b ∷ bytes)) s (lines_from (take n line) (b ∷ bytes))
    ends_lf b e few bytes rest =
        let t = r.read s (take n line) in
        let more = lines_from [] bytes in
        ap (λ (d : Held S). (finished r (fed r d bytes)).state) (byte_lf r s n line goes few b e)
        ∙ cases (r.is_over t)
        (λ over.
        ap (λ (x : Held S). (finished r x).state) (over_stays r (line_ends r here) over bytes)
        ∙ ap (λ (x : Held S). x.state) (over_finished r (line_ends r here) over)
        ∙ sym (ap (λ (u : Bool). cond u t (run_over r t more)) over))
        (λ on. rest t on ∙ sym (ap (λ (u : Bool). cond u t (run_over r t more)) on))
        ∙ sym (ap (run_over r s) (lines_lf (take n line) b bytes e) ∙ run_on s (take n line) more)

    -- the end of the input is the LF of a line that has begun
    finished_lf : (n ≡ 0 → ⊥) → finished r here ≡ finished r (fed r here (lf ∷ []))
    finished_lf ne =
        let there : last_line r here ≡ feed_byte r here lf = simp (ne_eqb n 0 ne) in
        let then : last_line r (feed_byte r here lf) ≡ feed_byte r here lf =
        cases (r.is_many s)
        (λ e. subst (λ (x : Held S). last_line r x ≡ x) (sym (byte_many r s n line goes e lf)) (over_last r (line_refused r here) (sound.over s)))
        (λ e. subst (λ (x : Held S). last_line r x ≡ x) (sym (byte_lf r s n line goes e lf refl)) refl) in
        ap (input_ends r) (there ∙ sym then)

  -- nothing begun, and nothing to come
  ends_none : (s : S) (line : List ℕ) → r.is_over s ≡ false → Ends (held s 0 line) s (lines_from [] [])
  unfolding run_over lines_from
  ends_none s line goes = ap (λ (u : Bool). cond u s (r.ended s)) goes

  ends_here : (s : S) (n : ℕ) (line : List ℕ) → r.is_over s ≡ false → n ≤ length line → Ends (held s n line) s (lines_from (take n line) [])
  ends_here s n line goes h =
      let long = length-take-le n line h in
      cases (eqb n 0)
      (λ e. subst (λ (k : ℕ). Ends (held s k line) s (lines_from (take k line) [])) (sym (eqb-true n 0 e)) (ends_none s line goes))
      (λ e.
      let ne = eqb-false n 0 e in
      ap (λ (d : Held S). d.state) (finished_lf s n line goes ne)
      ∙ cases (r.is_many s)
      (λ m.
      ap (λ (d : Held S). (finished r d).state) (byte_many r s n line goes m lf)
      ∙ ends_refused s n line goes (lines_from (take n line) (lf ∷ [])) (take n line) (first_line (take n line) lf []) (λ x z. sound.many s x m) [])
      (λ m. ends_lf s n line goes lf refl m [] (λ t on. ends_none t line on))
      ∙ ap (run_over r s)
      (lines_lf (take n line) lf [] refl ∙ ap (take n line ∷◌) lines_none ∙ sym (lines_alone (take n line) (omega (arith, ne)))))

  ends : (bytes : List ℕ) (s : S) (n : ℕ) (line : List ℕ) → r.is_over s ≡ false → n ≤ longest → length line ≡ longest
      → Ends (fed r (held s n line) bytes) s (lines_from (take n line) bytes)
  ends [] s n line goes h whole = ends_here s n line goes (omega arith)
  ends (b ∷ bytes) s n line goes h whole =
      let few = length-take-le n line (omega arith) in
      let lines = lines_from (take n line) (b ∷ bytes) in
      cases (r.is_many s)
      (λ e.
      ap (λ (d : Held S). (finished r (fed r d bytes)).state) (byte_many r s n line goes e b)
      ∙ ends_refused s n line goes lines (take n line) (first_line (take n line) b bytes) (λ x z. sound.many s x e) bytes)
      (λ e.
      cases (eqb b lf)
      (λ t. ends_lf s n line goes b t e bytes (λ u on. ends bytes u 0 line on (omega arith) whole))
      (λ t. cases (leb longest n)
      (λ full.
      let most = leb-true longest n full in
      let long = length-append (take n line) (b ∷ []) in
      ap (λ (d : Held S). (finished r (fed r d bytes)).state) (byte_long r s n line goes e b t most)
      ∙ ends_refused s n line goes lines (take n line ++ (b ∷ [])) (first_longer (take n line) b bytes t)
      (λ x z. sound.long s x (omega arith)) bytes)
      (λ room.
      let less = leb-false longest n room in
      ap (λ (d : Held S). (finished r (fed r d bytes)).state) (byte_kept r s n line goes e b t less)
      ∙ ends bytes s (n + 1) (set line n b) goes (omega arith) (length-set line n b ∙ whole)
      ∙ ap (λ (l : List ℕ). run_over r s (lines_from l bytes))
      (ap (λ (k : ℕ). take k (set line n b)) (add-one n) ∙ take-suc-set line n b (omega arith))
      ∙ sym (ap (run_over r s) (lines_byte (take n line) b bytes t)))))

  -- THE LAW: fed the bytes of an input and then its end, the reader is where its lines leave it
  pub input_run : (s : S) (line bytes : List ℕ) → r.is_over s ≡ false → length line ≡ longest
      → (finished r (fed r (held s 0 line) bytes)).state ≡ run_over r s (lines_of bytes)
  input_run s line bytes goes whole = ends bytes s 0 line goes (omega arith) whole ∙ ap (run_over r s) (lines_from_lem bytes)

  -- and in whatever slices they come
  pub fed_slices : (d : Held S) (a b : List ℕ) → fed r d (a ++ b) ≡ fed r (fed r d a) b
  fed_slices d a b = after_append (feed_byte r) d a b

  -- ---- a refusal that does not wait, from any line's first byte on, whatever bytes came before

  -- a line too many is refused at its first byte
  pub many_at_once : (s : S) (line : List ℕ) → r.is_over s ≡ false → r.is_many s ≡ true → (b : ℕ) (rest : List ℕ)
      → (fed r (held s 0 line) (b ∷ rest)).state ≡ r.unread s
  many_at_once s line goes e b rest =
      ap (λ (d : Held S). (fed r d rest).state) (byte_many r s 0 line goes e b)
      ∙ ap (λ (d : Held S). d.state) (over_stays r (line_refused r (held s 0 line)) (sound.over s) rest)

  -- a line too long is refused at its 256th byte
  pub long_at_once : (s : S) (line : List ℕ) → r.is_over s ≡ false → r.is_many s ≡ false
      → (part : List ℕ) → length part ≡ longest → ((i : ℕ) → i < length part → get_or part i 0 ≡ lf → ⊥)
      → (b : ℕ) → (b ≡ lf → ⊥) → (rest : List ℕ) → (fed r (held s 0 line) (part ++ (b ∷ rest))).state ≡ r.unread s
  long_at_once s line goes few part long none b ne rest =
      let n = 0 + length part in
      let d = held s n (sets line 0 part) in
      ap (λ (x : Held S). x.state)
      (part_kept r s goes few part 0 line (b ∷ rest) none (omega arith)
      ∙ ap (λ (x : Held S). fed r x rest) (byte_long r s n (sets line 0 part) goes few b (ne_eqb b lf ne) (omega arith))
      ∙ over_stays r (line_refused r d) (sound.over s) rest)
