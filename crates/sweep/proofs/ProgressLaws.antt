-- Why the run ends: each byte that is taken leaves fewer that an input may have. Then the slices that were read. Assumes nothing.
use Prim.Native.Nat.{ℕ, ◌+◌, ◌-◌, ◌*◌, ◌≤◌, ◌<◌}
use mathlib.Core.Path.{◌≡◌, refl, sym, ap, ◌∙◌, subst}
use mathlib.Core.Bool.{cond, not}
use mathlib.Core.List.{List, [], ◌∷◌, ◌++◌, append-nil, append_assoc}
use native.Mathlib.Omega.{arith}
use lib.Dec.{eqb, leb}
use lib.ListN.{length, take}
use borrow.Author.Tests.{ne_eqb, eqb-true, eqb-false, leb-true, leb-false}
use Rattle.lists.proofs.Cases.{cases}
use Rattle.lines.specs.Bytes.{longest}
use Rattle.reading.specs.declared.Reading.{Reading}
use Rattle.reading.specs.Reading.{desk, Outcome, outcome}
use Rattle.reading.specs.Step.{lines_most, is_too_many}
use Rattle.runs.proofs.NumberLaws.{step_reported}
use Rattle.feeding.specs.declared.Feeding.{Feeding}
use Rattle.feeding.specs.Lines.{lf, joined}
use Rattle.feeding.specs.Machine.{Held, held, feed_byte, fed, last_line, input_ends, finished}
use Rattle.feeding.specs.Feeding.{by_lines, start, held_by, Feeds, Ends}
use Rattle.feeding.proofs.ByteLaws.{over_stays, over_finished, byte_many, byte_lf, byte_long, byte_kept}
use Rattle.feeding.proofs.InputLaws.{fed_slices}
use Rattle.printing.proofs.OutputLaws.{program_prints}
use Rattle.std.specs.Prelude.{IfSome}
use Rattle.std.specs.declared.option.Option.{Option}
use Rattle.std.specs.Io.KnownBytes.{Consumes, IsAtEnd}
use Rattle.sweep.specs.Run.{Answered, AnsweredOver}
use Rattle.sweep.proofs.KnownLaws.{drawn_none, drawn_more, drawn_all, drawn_some, known_map}
use Rattle.runs.proofs.InputLaws.{long_refused}
use Rattle.feeding.proofs.RunLaws.{sound}

-- ---- the bytes that an input may still have: so many lines of 255 bytes and an LF, and the rest of this one

abbrev left_of : Held Outcome → ℕ
left_of d = (lines_most - d.state.left.reading.lines) * 256 + (longest - d.len)

abbrev pub left : Feeding → ℕ
left f = (lines_most - f.reading.lines) * 256 + (longest - f.len)

-- nothing is refused, and the counts are within their limits
record Going (d : Held Outcome) : Type 0 where
  done : d.state.answer ≡ 0
  lines : d.state.left.reading.lines ≤ lines_most
  len : d.len ≤ longest

-- n bytes later
record Later (d : Held Outcome) (n : ℕ) (d' : Held Outcome) : Type 0 where
  going : Going d'
  less : left_of d' + n ≤ left_of d

-- where the answer is still 0
abbrev To : Held Outcome → Held Outcome → Type 0
To d x = x.state.answer ≡ 0 → Later d 1 x

byte_later : (v : Reading) (st ct : List ℕ) (n : ℕ) (line : List ℕ) (b : ℕ) → v.lines ≤ lines_most → n ≤ longest
    → let d = held (outcome 0 (desk v st ct)) n line in To d (feed_byte by_lines d b)
byte_later v st ct n line b h g =
    let s = outcome 0 (desk v st ct) in
    let d = held s n line in
    cases (is_too_many v)
    (λ e. subst (To d) (sym (byte_many by_lines s n line refl e b)) (λ y. absurd (long_refused v y)))
    (λ e.
    let few = leb-false lines_most v.lines e in
    cases (eqb b lf)
    (λ t. subst (To d) (sym (byte_lf by_lines s n line refl e b t))
    (λ y.
    let more = (step_reported (desk v st ct) (take n line)).number h in
    record { going = record { done = y; lines = omega arith; len = omega arith }; less = omega arith }))
    (λ t. cases (leb longest n)
    (λ u. subst (To d) (sym (byte_long by_lines s n line refl e b t (leb-true longest n u))) (λ y. absurd (long_refused v y)))
    (λ u.
    let room = leb-false longest n u in
    subst (To d) (sym (byte_kept by_lines s n line refl e b t room))
    (λ y. record { going = record { done = refl; lines = h; len = omega arith }; less = omega arith }))))

bytes_later : (bytes : List ℕ) (d : Held Outcome) → Going d → (fed by_lines d bytes).state.answer ≡ 0 → Later d (length bytes) (fed by_lines d bytes)
bytes_later [] d g z = record { going = g; less = omega arith }
bytes_later (b ∷ bytes) d g z =
    let next = feed_byte by_lines d b in
    let v = d.state.left in
    cases (eqb next.state.answer 0)
    (λ e.
    let first : Later d 1 next =
    subst (λ (k : ℕ). let x = held (outcome k v) d.len d.line in To x (feed_byte by_lines x b)) (sym g.done)
    (byte_later v.reading v.stacks v.counts d.len d.line b g.lines g.len) (eqb-true next.state.answer 0 e) in
    let rest = bytes_later bytes next first.going z in
    let x = first.less in
    let y = rest.less in
    record { going = rest.going; less = omega arith })
    (λ e.
    let over = eqb-false next.state.answer 0 e in
    let stays = over_stays by_lines next (ap not (ne_eqb next.state.answer 0 over)) bytes in
    absurd (over (sym (ap (λ (x : Held Outcome). x.state.answer) stays) ∙ z)))

-- ---- the slices that were read

joined_snoc : (slices : List (List ℕ)) (bytes : List ℕ) → joined (slices ++ (bytes ∷ [])) ≡ joined slices ++ bytes
unfolding joined
joined_snoc [] bytes = append-nil bytes
joined_snoc (s ∷ slices) bytes = ap (s ++◌) (joined_snoc slices bytes) ∙ sym (append_assoc s (joined slices) bytes)

-- the slices so far, and what is left where nothing is refused
pub record Read (st ct : List ℕ) (f : Feeding) (st' ct' : List ℕ) : Type 0 where
  pub slices : List (List ℕ)
  pub is : held_by f st' ct' ≡ fed by_lines (held_by start st ct) (joined slices)
  pub done : f.answer ≡ 0
  pub lines : f.reading.lines ≤ lines_most
  pub len : f.len ≤ longest

-- what the run over them comes to
whole : (st ct : List ℕ) (f : Feeding) (st' ct' : List ℕ) (slices : List (List ℕ))
    → held_by f st' ct' ≡ finished by_lines (fed by_lines (held_by start st ct) (joined slices)) → Answered st ct f st' ct'
whole st ct f st' ct' slices e = record { slices = slices; is = e; prints = program_prints st ct (joined slices) f st' ct' e }

pub read_none : (st ct : List ℕ) (f : Feeding) → f ≡ start → Read st ct f st ct
unfolding joined
read_none st ct f e = record {
  slices = [];
  is = ap (λ (x : Feeding). held_by x st ct) e;
  done = ap (λ (x : Feeding). x.answer) e;
  lines = let zero = ap (λ (x : Feeding). x.reading.lines) e in omega arith;
  len = let zero = ap (λ (x : Feeding). x.len) e in omega arith;
}

module _ (st ct : List ℕ) (f : Feeding) (st₁ ct₁ : List ℕ) (so : Read st ct f st₁ ct₁) (bytes : List ℕ) (r : Feeding) (st₂ ct₂ : List ℕ)
    (feeds : Feeds f bytes st₁ ct₁ r st₂ ct₂) where
  all : held_by r st₂ ct₂ ≡ fed by_lines (held_by start st ct) (joined (so.slices ++ (bytes ∷ [])))
  all =
      feeds
      ∙ ap (λ (d : Held Outcome). fed by_lines d bytes) so.is
      ∙ sym (ap (fed by_lines (held_by start st ct)) (joined_snoc so.slices bytes)
      ∙ fed_slices by_lines sound (held_by start st ct) (joined so.slices) bytes)

  later : r.answer ≡ 0 → Later (held_by f st₁ ct₁) (length bytes) (held_by r st₂ ct₂)
  later z =
      subst (λ (d : Held Outcome). d.state.answer ≡ 0 → Later (held_by f st₁ ct₁) (length bytes) d) (sym feeds)
      (bytes_later bytes (held_by f st₁ ct₁) (record { done = so.done; lines = so.lines; len = so.len })) z

  -- a slice more, and nothing is refused
  pub read_more : r.answer ≡ 0 → Read st ct r st₂ ct₂
  read_more z =
      let g = (later z).going in
      record { slices = so.slices ++ (bytes ∷ []); is = all; done = z; lines = g.lines; len = g.len }

  pub read_less : r.answer ≡ 0 → 0 < length bytes → left r < left f
  read_less z some = let less = (later z).less in omega arith

  -- it is refused: no byte after it counts
  pub read_refused : (r.answer ≡ 0 → ⊥) → Answered st ct r st₂ ct₂
  read_refused over =
      whole st ct r st₂ ct₂ (so.slices ++ (bytes ∷ []))
      (sym (over_finished by_lines (held_by r st₂ ct₂) (ap not (ne_eqb r.answer 0 over))) ∙ ap (finished by_lines) all)

  -- it is the LF that the last line lacks, if that has begun, and then the input ends
  ended_is : bytes ≡ cond (not (eqb f.len 0)) (lf ∷ []) [] → (last : Feeding) → Ends r last
      → held_by last st₂ ct₂ ≡ finished by_lines (fed by_lines (held_by start st ct) (joined so.slices))
  ended_is e last ends =
      let d = held_by f st₁ ct₁ in
      let lf_fed : fed by_lines d bytes ≡ last_line by_lines d = ap (fed by_lines d) e ∙ cases (eqb f.len 0) (λ t. simp t) (λ t. simp t) in
      ends st₂ ct₂ ∙ ap (input_ends by_lines) (feeds ∙ lf_fed) ∙ ap (finished by_lines) so.is

  pub read_ended : bytes ≡ cond (not (eqb f.len 0)) (lf ∷ []) [] → (last : Feeding) → Ends r last → Answered st ct last st₂ ct₂
  read_ended e last ends = whole st ct last st₂ ct₂ so.slices (ended_is e last ends)

-- ---- the bytes that were known

-- the slices so far were drawn from them
pub record ReadFrom (k k' : Option (List ℕ)) (st ct : List ℕ) (f : Feeding) (st' ct' : List ℕ) : Type 0 where
  pub read : Read st ct f st' ct'
  pub drawn : Consumes k k' (joined read.slices)

pub from_none : (k : Option (List ℕ)) (st ct : List ℕ) (f : Feeding) → f ≡ start → ReadFrom k k st ct f st ct
unfolding joined read_none
from_none k st ct f e = record { read = read_none st ct f e; drawn = drawn_none k }

-- what the run over all of them comes to
over : (st ct bytes : List ℕ) (f : Feeding) (st' ct' : List ℕ)
    → held_by f st' ct' ≡ finished by_lines (fed by_lines (held_by start st ct) bytes) → AnsweredOver st ct bytes f st' ct'
over st ct bytes f st' ct' e = record { is = e; prints = program_prints st ct bytes f st' ct' e }

module _ (k k₁ : Option (List ℕ)) (st ct : List ℕ) (f : Feeding) (st₁ ct₁ : List ℕ) (so : ReadFrom k k₁ st ct f st₁ ct₁) (bytes : List ℕ)
    (r : Feeding) (st₂ ct₂ : List ℕ) (feeds : Feeds f bytes st₁ ct₁ r st₂ ct₂) (k₂ : Option (List ℕ)) where
  -- a slice more
  pub from_more : Consumes k₁ k₂ bytes → r.answer ≡ 0 → ReadFrom k k₂ st ct r st₂ ct₂
  unfolding read_more
  from_more h z = record {
    read = read_more st ct f st₁ ct₁ so.read bytes r st₂ ct₂ feeds z;
    drawn = subst (Consumes k k₂) (sym (joined_snoc so.read.slices bytes)) (drawn_more k k₁ k₂ (joined so.read.slices) bytes so.drawn h);
  }

  -- a refusal stays, whatever comes after it
  rest_over : (r.answer ≡ 0 → ⊥) → (rest : List ℕ) → AnsweredOver st ct ((joined so.read.slices ++ bytes) ++ rest) r st₂ ct₂
  rest_over ne rest =
      let d = held_by r st₂ ct₂ in
      let o = ap not (ne_eqb r.answer 0 ne) in
      let first = held_by start st ct in
      let slices = joined so.read.slices in
      let fed_now : d ≡ fed by_lines first (slices ++ bytes) =
      feeds ∙ ap (λ (x : Held Outcome). fed by_lines x bytes) so.read.is ∙ sym (fed_slices by_lines sound first slices bytes) in
      let fed_all : d ≡ fed by_lines first ((slices ++ bytes) ++ rest) =
      sym (over_stays by_lines d o rest) ∙ ap (λ (x : Held Outcome). fed by_lines x rest) fed_now
      ∙ sym (fed_slices by_lines sound first (slices ++ bytes) rest) in
      over st ct ((slices ++ bytes) ++ rest) r st₂ ct₂ (sym (over_finished by_lines d o) ∙ ap (finished by_lines) fed_all)

  pub refused_over : Consumes k₁ k₂ bytes → (r.answer ≡ 0 → ⊥) → IfSome k (λ all. AnsweredOver st ct all r st₂ ct₂)
  refused_over h ne =
      known_map k (λ all w. subst (λ (l : List ℕ). AnsweredOver st ct l r st₂ ct₂) w.1 (rest_over ne w.0))
      (drawn_some k k₂ (joined so.read.slices ++ bytes) (drawn_more k k₁ k₂ (joined so.read.slices) bytes so.drawn h))

  -- the input ends, and all of them came
  pub ended_over : IsAtEnd k₁ → bytes ≡ cond (not (eqb f.len 0)) (lf ∷ []) [] → (last : Feeding) → Ends r last
      → IfSome k (λ all. AnsweredOver st ct all last st₂ ct₂)
  ended_over h e last ends =
      known_map k
      (λ all w.
      subst (λ (l : List ℕ). AnsweredOver st ct l last st₂ ct₂) w
      (over st ct (joined so.read.slices) last st₂ ct₂ (ended_is st ct f st₁ ct₁ so.read bytes r st₂ ct₂ feeds e last ends)))
      (drawn_all k k₁ (joined so.read.slices) so.drawn h)
