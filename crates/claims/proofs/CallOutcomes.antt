-- What the contracts of the calls and the laws of their sequences come to, put as the claims say it. Assumes nothing.
use Prim.Native.Nat.{ℕ, ◌+◌, ◌-◌, ◌*◌, ◌≤◌, ◌<◌}
use mathlib.Core.Path.{◌≡◌, refl, sym, ap, ap₂, ◌∙◌, subst}
use mathlib.Core.Bool.{Bool, true, cond}
use mathlib.Core.List.{List, []}
use native.Mathlib.Omega.{arith}
use lib.Dec.{eqb}
use lib.ListN.{length, drop, get_or}
use borrow.Author.Tests.{eqb-true, eqb-false, ne_eqb}
use Rattle.lists.specs.Members.{mem, Distinct}
use Rattle.lists.specs.Sums.{total}
use Rattle.lists.specs.Tests.{any_to}
use Rattle.lists.proofs.Cases.{cases}
use Rattle.lists.proofs.PartLaws.{lengths_past, lengths_zero}
use Rattle.lists.proofs.TestLaws.{settled_done, settled_not}
use Rattle.lists.proofs.ZeroLaws.{drop_zeroed}
use Rattle.cache.specs.Cache.{Given, ref, flush, referred, events_of, misses_over}
use Rattle.cache.specs.Stack.{is_seen, seen_in}
use Rattle.cache.proofs.SeenLaws.{seen_is, no_repeats}
use Rattle.order.specs.declared.Order.{Order}
use Rattle.order.specs.Limits.{sizes, stack_need, count_need}
use Rattle.taking.specs.declared.Opened.{Opened}
use Rattle.taking.specs.Places.{used_of, stack_at, block_at, full_at}
use Rattle.taking.specs.Opening.{Opens, open_answer, opened}
use Rattle.taking.specs.Questions.{Counted, has, hits_of, misses_answer, misses_of}
use Rattle.taking.specs.Ratios.{Rated, ratios_answer, ratios_of, ratios_at, no_ratios}
use Rattle.taking.specs.Taking.{Takes, taken, take_answer}
use Rattle.taking.specs.Parts.{unflushable}
use Rattle.taking.specs.World.{World, world}
use Rattle.taking.proofs.FlushLaws.{emptied_state, emptied_stacks, flushed_is, used_zero, unused_stay}
use Rattle.taking.proofs.TakenLaws.{full_at_lem, full_each}
use Rattle.calls.specs.Answers.{is_full_after}
use Rattle.calls.specs.Calls.{Call, Calls}
use Rattle.calls.proofs.AnswerLaws.{count_is, stack_is, full_by_smallest, full_at_smallest, after_cases, answer_told, answer_after_lem}
use Rattle.calls.proofs.CallLaws.{call_done, opened_is, history_after, order_after, kept_by_calls}
use Rattle.calls.proofs.HistoryLaws.{History}
use Rattle.calls.proofs.PassedLaws.{stacks_past_taken, counts_past_taken}
use Rattle.calls.proofs.QuestionLaws.{misses_are, misses_answered, ratios_answered, ratios_after}

-- ---- one call

pub opening_refused : {o : Order} {w : World} {n : ℕ} {w' : World} → Opens o w n w' → (n ≡ 0 → ⊥) → w' ≡ w
opening_refused {o} {w} c ne = c.left ∙ settled_not (open_answer o w) (opened o w) w (λ z. ne (c.answer ∙ z))

pub opened_zeroed : {o : Order} {w : World} {n : ℕ} {w' : World} → Opens o w n w' → n ≡ 0 → w' ≡ opened o w
opened_zeroed {o} {w} c z = c.left ∙ settled_done (open_answer o w) (opened o w) w (sym c.answer ∙ z)

module _ (v : Opened) (ct : List ℕ) (b s n : ℕ) where
  pub no_misses : (q : Counted) → q ≡ misses_of v ct b s n → (q.answer ≡ 0 → ⊥) → q.misses ≡ 0
  no_misses q e ne =
      ap (λ (q : Counted). q.misses) e
      ∙ settled_not (misses_answer v ct b s n) (v.taken - hits_of v ct b s n) 0 (λ z. ne (ap (λ (q : Counted). q.answer) e ∙ z))

  pub no_ratios_lem : (q : Rated) → q ≡ ratios_of v ct b s n → (q.answer ≡ 0 → ⊥) → q.ratios ≡ no_ratios
  no_ratios_lem q e ne =
      ap (λ (q : Rated). q.ratios) e
      ∙ settled_not (ratios_answer (misses_of v ct b s n) v.taken) (ratios_at (misses_of v ct b s n).misses v.taken b) no_ratios
      (λ z. ne (ap (λ (q : Rated). q.answer) e ∙ z))

-- ---- entries past what the order needs

-- those of both tables are in w' as they were in w
abbrev pub Spared : Order → World → World → Type 0
Spared o w w' =
    (drop (stack_need o) w'.stacks ≡ drop (stack_need o) w.stacks) × (drop (count_need o) w'.counts ≡ drop (count_need o) w.counts)

pub opening_spares : {o : Order} {w : World} {n : ℕ} {w' : World} → Opens o w n w' → Spared o w w'
opening_spares {o} {w} c =
    cases (eqb (open_answer o w) 0)
    (λ e.
    let left = c.left ∙ settled_done (open_answer o w) (opened o w) w (eqb-true (open_answer o w) 0 e) in
    rw left (drop_zeroed (stack_need o) w.stacks, drop_zeroed (count_need o) w.counts))
    (λ e.
    let left = c.left ∙ settled_not (open_answer o w) (opened o w) w (eqb-false (open_answer o w) 0 e) in
    rw left (refl, refl))

pub taking_spares : {w : World} {g : Given} {n : ℕ} {w' : World} → Takes w g n w' → Spared w.state.order w w'
taking_spares {w} {g} c =
    cases (eqb (take_answer w g) 0)
    (λ e.
    let z = eqb-true (take_answer w g) 0 e in
    let left = c.left ∙ settled_done (take_answer w g) (taken w g) w z in
    rw left (stacks_past_taken w g z, counts_past_taken w g z))
    (λ e.
    let left = c.left ∙ settled_not (take_answer w g) (taken w g) w (eqb-false (take_answer w g) 0 e) in
    rw left (refl, refl))

-- ---- a flush that is done

module _ {w w' : World} (c : Takes w flush 0 w') where
  abbrev v : Opened
  v = w.state

  -- no refusal applies
  applies_none : unflushable v (length w.stacks) ≡ 0
  applies_none = sym c.answer

  pub flushed_to : w' ≡ world (emptied_state v w.stacks w.counts) (emptied_stacks v w.stacks w.counts) w.counts
  flushed_to = call_done c ∙ flushed_is v w.stacks w.counts

  pub flush_empties : (k : ℕ) → k < sizes v.order → used_of w'.state k ≡ 0
  flush_empties k h = ap (λ (x : World). used_of x.state k) flushed_to ∙ lengths_zero (sizes v.order) k v.used h

  pub flush_zeroes : (k j : ℕ) → k < sizes v.order → j < used_of v k → get_or w'.stacks (k * v.order.room + j) 0 ≡ 0
  flush_zeroes k j h g =
      ap (λ (x : World). get_or x.stacks (k * v.order.room + j) 0) flushed_to ∙ used_zero v w.stacks w.counts applies_none k j h g

  -- what stays
  pub flush_keeps : (w'.state.order ≡ v.order) × (w'.state.taken ≡ v.taken) × (w'.counts ≡ w.counts)
  flush_keeps = (
    ap (λ (x : World). x.state.order) flushed_to,
    ap (λ (x : World). x.state.taken) flushed_to,
    ap (λ (x : World). x.counts) flushed_to,
  )

  pub flush_spares_lengths : (k : ℕ) → sizes v.order ≤ k → used_of w'.state k ≡ used_of v k
  flush_spares_lengths k h =
      ap (λ (x : World). used_of x.state k) flushed_to ∙ lengths_past (λ (k : ℕ). []) v.used (sizes v.order) k h

  pub flush_spares_entries : (k j : ℕ) → k < sizes v.order → used_of v k ≤ j → j < v.order.room
      → get_or w'.stacks (k * v.order.room + j) 0 ≡ get_or w.stacks (k * v.order.room + j) 0
  flush_spares_entries k j h g u =
      ap (λ (x : World). get_or x.stacks (k * v.order.room + j) 0) flushed_to ∙ unused_stay v w.stacks w.counts applies_none k j h g u

-- ---- any calls after an opening

module _ (o : Order) (w₀ w₁ : World) (opens : Opens o w₀ 0 w₁) (cs : List Call) (l : List Given) (w : World) (calls : Calls w₁ cs l w) where
  past : History w l
  past = history_after o w₀ w₁ opens cs l w calls

  same : w.state.order ≡ o
  same = order_after o w₀ w₁ opens cs l w calls

  pub calls_spare : Spared o w₀ w
  calls_spare =
      (kept_by_calls (λ x p. (x.state.order ≡ o) × Spared o w₀ x)
      (λ x p g z h. (
        h.0,
        (
          subst (λ (m : Order). drop (stack_need m) (taken x g).stacks ≡ drop (stack_need m) x.stacks) h.0 (stacks_past_taken x g z) ∙ h.1.0,
          subst (λ (m : Order). drop (count_need m) (taken x g).counts ≡ drop (count_need m) x.counts) h.0 (counts_past_taken x g z) ∙ h.1.1,
        ),
      ))
      calls [] (ap (λ (x : World). x.state.order) (opened_is o w₀ w₁ opens), opening_spares opens)).1

  module _ (b s n : ℕ) where
    here : has o b s n ≡ true → has w.state.order b s n ≡ true
    here h = subst (λ (x : Order). has x b s n ≡ true) (sym same) h

    pub misses_promised : has o b s n ≡ true → (q : Counted) → q ≡ misses_of w.state w.counts b s n
        → (q.answer ≡ 0) × (q.misses ≡ misses_over b s n l)
    misses_promised h q e = misses_are w l past b s n (here h) q e

    pub misses_listed : (q : Counted) → q ≡ misses_of w.state w.counts b s n → q.answer ≡ cond (has o b s n) 0 8
    misses_listed q e =
        ap (λ (q : Counted). q.answer) e ∙ misses_answered w l past b s n ∙ ap (λ (x : Order). cond (has x b s n) 0 8) same

    pub ratios_listed : (q : Rated) → q ≡ ratios_of w.state w.counts b s n
        → q.answer ≡ cond (has o b s n) (cond (eqb (total referred l) 0) 9 0) 8
    ratios_listed q e =
        ap (λ (q : Rated). q.answer) e
        ∙ ratios_answered w l past b s n
        ∙ ap₂ (λ (x : Order) (t : ℕ). cond (has x b s n) (cond (eqb t 0) 9 0) 8) same (count_is w l past)

    pub ratios_promised : has o b s n ≡ true → (total referred l ≡ 0 → ⊥) → (q : Rated) → q ≡ ratios_of w.state w.counts b s n
        → (q.answer ≡ 0) × (q.ratios ≡ ratios_at (misses_over b s n l) (total referred l) b)
    ratios_promised h ne q e = (
      ratios_listed q e ∙ simp (h, ne_eqb (total referred l) 0 ne),
      ap (λ (q : Rated). q.ratios) e
          ∙ ratios_after w l past b s n (here h) (λ z. ne (sym (count_is w l past) ∙ z))
          ∙ ap (λ (t : ℕ). ratios_at (misses_over b s n l) t b) (count_is w l past),
    )

  module _ (n : ℕ) (w' : World) where
    pub answer_promised : (a : ℕ) → Takes w (ref a) n w'
        → n ≡ cond (eqb (total referred l) o.refs) 5 (cond (is_full_after o l (ref a) o.bmin.0) 6 0)
    answer_promised a takes =
        takes.answer
        ∙ answer_after_lem w l past a
        ∙ ap₂ (λ (t : ℕ) (x : Order). cond (eqb t x.refs) 5 (cond (is_full_after x l (ref a) x.bmin.0) 6 0)) (count_is w l past) same

    pub flush_promised : Takes w flush n w' → n ≡ 0
    flush_promised takes = takes.answer ∙ answer_told w l past flush

    pub neither_4_nor_7 : (g : Given) → Takes w g n w' → (n ≡ 4 → ⊥) × (n ≡ 7 → ⊥)
    neither_4_nor_7 g takes =
        subst (λ (m : ℕ). (m ≡ 4 → ⊥) × (m ≡ 7 → ⊥)) (sym (takes.answer ∙ answer_told w l past g))
        (after_cases (λ (m : ℕ). (m ≡ 4 → ⊥) × (m ≡ 7 → ⊥))
        (λ z. omega arith, λ z. omega arith) (λ z. omega arith, λ z. omega arith) (λ z. omega arith, λ z. omega arith) w.state.order l g)

  module _ (a : ℕ) where
    -- at block size k the block is new and its stack is full
    abbrev full : ℕ → Bool
    full = full_at w.state w.stacks (block_at w.state a)

    pub smallest_decides : any_to (sizes o) full ≡ full 0
    smallest_decides =
        ap (λ (x : Order). any_to (sizes x) full) (sym same)
        ∙ sym (full_each w.state w.stacks w.counts a past.fitted.fit)
        ∙ full_by_smallest w l past (ref a)
        ∙ full_at_smallest w l past (ref a)
        ∙ full_at_lem w.state w.stacks w.counts a past.fitted.fit 0 (omega arith)

  -- ---- what the state and the stacks hold

  pub taken_total : w.state.taken ≡ total referred l
  taken_total = count_is w l past

  module _ (k : ℕ) (h : k < sizes o) where
    in_order : k < sizes w.state.order
    in_order = subst (λ (x : Order). k < sizes x) (sym same) h

    stack_seen : stack_at w.state w.stacks k ≡ seen_in (o.bmin.0 + k) l
    stack_seen = stack_is w l past k in_order ∙ ap (λ (x : Order). seen_in (x.bmin.0 + k) l) same

    pub stack_once : Distinct (stack_at w.state w.stacks k)
    stack_once = rw stack_seen (no_repeats (events_of (o.bmin.0 + k) l))

    pub stack_holds : (x : ℕ) → mem x (stack_at w.state w.stacks k) ≡ is_seen x (events_of (o.bmin.0 + k) l)
    stack_holds x = ap (mem x) stack_seen ∙ seen_is x (events_of (o.bmin.0 + k) l)

    pub rest_blank : (j : ℕ) → used_of w.state k ≤ j → j < o.room → get_or w.stacks (k * o.room + j) 0 ≡ 0
    rest_blank j from below =
        subst (λ (r : ℕ). get_or w.stacks (k * r + j) 0 ≡ 0) (ap (λ (x : Order). x.room) same)
        (past.blank k j in_order from (subst (λ (x : Order). j < x.room) (sym same) below))
