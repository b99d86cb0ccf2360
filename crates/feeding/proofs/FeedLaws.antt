-- What `feed` keeps: what all bytes leave is what those still to come leave. Assumes nothing.
use Prim.Native.Nat.{ℕ, ◌+◌, ◌-◌, ◌≤◌, ◌<◌}
use mathlib.Core.Path.{◌≡◌, sym, ap, ap₂, ◌∙◌}
use mathlib.Core.Bool.{false, not}
use mathlib.Core.List.{List, [], ◌∷◌, ◌++◌, append_assoc, append-nil}
use native.Mathlib.Omega.{arith}
use lib.Dec.{ltb}
use lib.ListN.{length, take, drop, get_or, length-drop, drop_of_length-le}
use lib.Seq.{sets, sets-eq, length-take-le, drop-cons, drop-drop, get_or-drop, get_or-take}
use borrow.Author.Tests.{eq-eqb, ne_eqb, le-leb, lt-leb, ltb-true, ltb-false}
use borrow.Rule.Slice.PartMut.{put_mid, mid_of}
use Rattle.std.proofs.lemmas.List.{take_all, take-append-drop}
use Rattle.lists.proofs.Cases.{cases}
use Rattle.lines.specs.Bytes.{longest}
use Rattle.reading.specs.Reading.{Outcome}
use Rattle.reading.specs.Step.{lines_most}
use Rattle.feeding.specs.declared.Feeding.{Feeding}
use Rattle.feeding.specs.Lines.{lf}
use Rattle.feeding.specs.Machine.{Held, held, fed}
use Rattle.feeding.specs.Feeding.{by_lines, held_by, Feeds}
use Rattle.feeding.specs.Parts.{Copied, EndsLine, RefusesLine}
use Rattle.feeding.proofs.ByteLaws.{over_stays, part_kept, next_many, next_long, next_lf}
use Rattle.feeding.proofs.RunLaws.{sound}

-- after a refusal no byte counts
pub refused_stays : (f : Feeding) (st ct bytes : List ℕ) → (f.answer ≡ 0 → ⊥) → fed by_lines (held_by f st ct) bytes ≡ held_by f st ct
refused_stays f st ct bytes ne = over_stays by_lines (held_by f st ct) (ap not (ne_eqb f.answer 0 ne)) bytes

-- bytes copied to the end of the line that has begun
module _ (rest line : List ℕ) (len n k : ℕ) (part : List ℕ) (c : Copied rest (mid_of len k line) n part) (whole : len + k ≡ length line) where
  taken : length (take n rest) ≡ n
  taken = length-take-le n rest c.inside

  room : mid_of len k line ≡ drop len line
  room = take_all k (drop len line) (omega (arith, length-drop len line))

  copied_fits : len + n ≤ length line
  copied_fits = let fits = c.fits in omega (arith, ap length room, length-drop len line)

  line_copied : put_mid len k line part ≡ sets line len (take n rest)
  line_copied =
      let none : drop k (drop len line) ≡ [] = drop_of_length-le (drop len line) {i = k} (omega (arith, length-drop len line)) in
      let end : part ++ drop k (drop len line) ≡ take n rest ++ drop (len + n) line =
      ap₂ ◌++◌ c.copy none ∙ append-nil (take n rest ++ drop n (mid_of len k line))
      ∙ ap (λ (l : List ℕ). take n rest ++ drop n l) room ∙ ap (take n rest ++◌) (drop-drop n len line) in
      ap (take len line ++◌) end ∙ sym (append_assoc (take len line) (take n rest) (drop (len + n) line))
      ∙ ap (λ (m : ℕ). take len line ++ take n rest ++ drop (len + m) line) (sym taken)
      ∙ sym (sets-eq (take n rest) line len (let fits = copied_fits in omega (arith, taken)))

  -- where a byte that is no LF comes next, the line is full
  full : (b : ℕ) (more : List ℕ) → drop n rest ≡ b ∷ more → (b ≡ lf → ⊥) → length line ≤ len + n
  full b more next ne =
      let first : get_or rest n 0 ≡ b = ap (λ (i : ℕ). get_or rest i 0) (omega arith) ∙ sym (get_or-drop n rest 0 0) ∙ ap (λ (l : List ℕ). get_or l 0 0) next in
      let some : n < length rest = omega (arith, length-drop n rest, ap length next) in
      cases (ltb n (length (mid_of len k line)))
      (λ e. absurd (ne (sym first ∙ c.stops some (ltb-true n (length (mid_of len k line)) e))))
      (λ e. let past = ltb-false n (length (mid_of len k line)) e in omega (arith, ap length room, length-drop len line))

-- these bytes are still to come, and nothing was refused
pub record Fed (bytes : List ℕ) (f₀ : Feeding) (st₀ ct₀ rest : List ℕ) (f : Feeding) (st ct : List ℕ) : Type 0 where
  pub done : f.answer ≡ 0
  pub come : fed by_lines (held_by f₀ st₀ ct₀) bytes ≡ fed by_lines (held_by f st ct) rest

module _ {bytes : List ℕ} {f₀ : Feeding} {st₀ ct₀ rest : List ℕ} {f : Feeding} {st ct : List ℕ} (t : Fed bytes f₀ st₀ ct₀ rest f st ct) where
  abbrev s : Outcome
  s = (held_by f st ct).state

  goes : by_lines.is_over s ≡ false
  goes = ap not (eq-eqb f.answer 0 t.done)

  pub too_many : 0 < length rest → lines_most ≤ f.reading.lines → (r : Feeding) → RefusesLine f r → Feeds f₀ bytes st₀ ct₀ r st ct
  too_many h e r is =
      is st ct
      ∙ sym (t.come ∙ ap (fed by_lines (held_by f st ct)) (drop-cons rest 0 0 h)
      ∙ next_many by_lines sound s f.len f.line goes (get_or rest 0 0) (drop 1 rest) (le-leb lines_most f.reading.lines e))

  -- n bytes are copied to the end of the line
  module _ (few : f.reading.lines < lines_most) (n k : ℕ) (part : List ℕ) (c : Copied rest (mid_of f.len k f.line) n part)
      (whole : f.len + k ≡ length f.line) (all : length f.line ≡ longest) where
    no_more : by_lines.is_many s ≡ false
    no_more = lt-leb lines_most f.reading.lines few

    abbrev g : Feeding
    g = record { reading = f.reading; answer = f.answer; len = f.len + n; line = put_mid f.len k f.line part }

    come : fed by_lines (held_by f₀ st₀ ct₀) bytes ≡ fed by_lines (held_by g st ct) (drop n rest)
    come =
        let long = taken rest f.line f.len n k part c whole in
        let fits = copied_fits rest f.line f.len n k part c whole in
        t.come ∙ ap (fed by_lines (held_by f st ct)) (sym (take-append-drop n rest))
        ∙ part_kept by_lines s goes no_more (take n rest) f.len f.line (drop n rest)
        (λ i h e. c.before i (omega (arith, long)) (sym (get_or-take n rest i 0 (omega (arith, long))) ∙ e)) (omega (arith, long))
        ∙ ap₂ (λ (m : ℕ) (l : List ℕ). fed by_lines (held s (f.len + m) l) (drop n rest)) long (sym (line_copied rest f.line f.len n k part c whole))

    after : take (length rest - n) (drop n rest) ≡ drop n rest
    after = take_all (length rest - n) (drop n rest) (omega (arith, length-drop n rest))

    pub slice_ends : length (take (length rest - n) (drop n rest)) ≡ 0 → Feeds f₀ bytes st₀ ct₀ g st ct
    slice_ends e = sym (come ∙ ap (fed by_lines (held_by g st ct)) (drop_of_length-le (drop n rest) {i = 0} (omega (arith, ap length after, e))))

    module _ (b : ℕ) (more : List ℕ) (first : take (length rest - n) (drop n rest) ≡ b ∷ more) where
      next : drop n rest ≡ b ∷ more
      next = sym after ∙ first

      pub no_room : (b ≡ lf → ⊥) → (r : Feeding) → RefusesLine g r → Feeds f₀ bytes st₀ ct₀ r st ct
      no_room ne r is =
          let long = full rest f.line f.len n k part c whole b more next ne in
          is st ct
          ∙ sym (come ∙ ap (fed by_lines (held_by g st ct)) next ∙ next_long by_lines sound s g.len g.line goes b more no_more ne (omega arith))

      module _ (end : b ≡ lf) (r : Feeding) (st' ct' : List ℕ) (is : EndsLine g st ct r st' ct') where
        line_ended : fed by_lines (held_by f₀ st₀ ct₀) bytes ≡ fed by_lines (held_by r st' ct') more
        line_ended =
            come ∙ ap (fed by_lines (held_by g st ct)) next ∙ next_lf by_lines sound s g.len g.line goes b more no_more end
            ∙ ap (λ (d : Held Outcome). fed by_lines d more) (sym is)

        pub line_refused : (r.answer ≡ 0 → ⊥) → Feeds f₀ bytes st₀ ct₀ r st' ct'
        line_refused ne = sym (line_ended ∙ refused_stays r st' ct' more ne)

        pub line_done : r.answer ≡ 0 → Fed bytes f₀ st₀ ct₀ more r st' ct'
        line_done e = record { done = e; come = line_ended }
