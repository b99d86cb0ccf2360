-- What a taking answers after an opening: of the refusals only 5 and 6 come, and the smallest block size decides 6. Assumes nothing.
use Prim.Native.Nat.{ℕ, ◌+◌, ◌<◌}
use mathlib.Core.Path.{◌≡◌, sym, ap, ap₂, ◌∙◌}
use mathlib.Core.Bool.{Bool, true, false, cond, or-false}
use mathlib.Core.List.{List, [], ◌∷◌, ◌++◌}
use native.Mathlib.Nat.{zero-add}
use native.Mathlib.Omega.{arith}
use lib.Dec.{eqb, ltb}
use lib.ListN.{length}
use borrow.Author.Tests.{lt-ltb, ltb-true}
use Rattle.lists.specs.Runs.{after, any_on}
use Rattle.lists.specs.Sums.{total}
use Rattle.lists.specs.Tests.{any_to}
use Rattle.lists.proofs.Cases.{picked}
use Rattle.lists.proofs.RunLaws.{never_on}
use Rattle.lists.proofs.TestLaws.{any_same, any_none_of, any_first}
use Rattle.cache.specs.Cache.{block_of, touch, empty, touched, Given, ref, flush, referred, events_at, events_of}
use Rattle.cache.specs.Stack.{seen_in}
use Rattle.cache.proofs.GivenLaws.{touches_all}
use Rattle.cache.proofs.SizeLaws.{no_longer}
use Rattle.order.specs.declared.Order.{Order}
use Rattle.order.specs.Limits.{sizes}
use Rattle.sizes.specs.Size.{Size, empty_size, size_step, is_full, is_over}
use Rattle.sizes.proofs.SizeLaws.{total_after, stack_after, never_over}
use Rattle.taking.proofs.NeedLaws.{answer_by_sizes, flush_is_done}
use Rattle.taking.specs.World.{World, size_at}
use Rattle.taking.specs.Taking.{events_in, some_size, take_answer}
use Rattle.calls.specs.Answers.{is_full_after, answer_after}
use Rattle.calls.proofs.HistoryLaws.{History, size_next_lem}

-- one size is full exactly where its stack would be longer than room once all is taken
full_once : (o : Order) (q : Size) (b : ℕ) (g : Given)
    → any_on (size_step o) (is_full o) q (events_at b g) ≡ ltb o.room (length (after (size_step o) q (events_at b g)).stack)
full_once o q b (ref a) = or-false (is_full o q (touch (block_of b a)))
full_once o q b flush = or-false (is_full o q empty)

-- only 0, 5 and 6 come
pub after_cases : (P : ℕ → Type 0) → P 0 → P 5 → P 6 → (o : Order) (past : List Given) (g : Given) → P (answer_after o past g)
after_cases P done reached full o past (ref a) =
    picked P (eqb (total referred past) o.refs)
    (λ e. reached)
    (λ e. picked P (any_to (sizes o) (λ (k : ℕ). is_full_after o past (ref a) (o.bmin.0 + k))) (λ f. full) (λ f. done))
after_cases P done reached full o past flush = done

module _ (w : World) (past : List Given) (i : History w past) where
  abbrev o : Order
  o = w.state.order

  -- block size k
  abbrev at : ℕ → ℕ
  at k = o.bmin.0 + k

  first_in : 0 < sizes o
  first_in = omega arith

  zeroth : at 0 ≡ o.bmin.0
  zeroth = omega arith

  -- the references taken are counted
  pub count_is : w.state.taken ≡ total referred past
  count_is =
      ap (λ (q : Size). q.total) (i.size 0 first_in)
      ∙ total_after o (empty_size o) (events_of (at 0) past)
      ∙ zero-add (total touched (events_of (at 0) past))
      ∙ touches_all (at 0) past

  -- the stack of each block size is that of the blocks seen
  pub stack_is : (k : ℕ) → k < sizes o → (size_at w k).stack ≡ seen_in (at k) past
  stack_is k h = ap (λ (q : Size). q.stack) (i.size k h) ∙ stack_after o (empty_size o) (events_of (at k) past)

  module _ (g : Given) where
    pub none_over : some_size is_over w g ≡ false
    none_over =
        any_none_of (sizes o) (λ (k : ℕ). any_on (size_step o) (is_over o) (size_at w k) (events_in w g k))
        (λ k h.
        ap (λ (q : Size). any_on (size_step o) (is_over o) q (events_in w g k)) (i.size k h)
        ∙ never_on (size_step o) (is_over o) (empty_size o) (never_over o) (events_of (at k) past) (events_in w g k))

    full_is : (k : ℕ) → k < sizes o → any_on (size_step o) (is_full o) (size_at w k) (events_in w g k) ≡ is_full_after o past g (at k)
    full_is k h =
        full_once o (size_at w k) (at k) g
        ∙ ap (λ (q : Size). ltb o.room (length q.stack)) (size_next_lem w past i g k h)
        ∙ ap (λ (q : List ℕ). ltb o.room (length q)) (stack_after o (empty_size o) (events_of (at k) (past ++ (g ∷ []))))

    -- 6 comes where the blocks seen at some size would be more than room
    pub full_all : some_size is_full w g ≡ any_to (sizes o) (λ (k : ℕ). is_full_after o past g (at k))
    full_all =
        any_same (sizes o) (λ (k : ℕ). any_on (size_step o) (is_full o) (size_at w k) (events_in w g k)) (λ (k : ℕ). is_full_after o past g (at k)) full_is

    down : (k : ℕ) → k < sizes o → is_full_after o past g (at k) ≡ true → is_full_after o past g (at 0) ≡ true
    down k h e =
        let more = ltb-true o.room (length (seen_in (at k) (past ++ (g ∷ [])))) e in
        let less = no_longer o.bmin.0 k (past ++ (g ∷ [])) in
        let first = ap (λ (b : ℕ). length (seen_in b (past ++ (g ∷ [])))) zeroth in
        lt-ltb o.room (length (seen_in (at 0) (past ++ (g ∷ [])))) (omega arith)

    -- and the smallest decides that
    pub full_by_smallest : some_size is_full w g ≡ is_full_after o past g o.bmin.0
    full_by_smallest =
        full_all ∙ any_first (sizes o) (λ (k : ℕ). is_full_after o past g (at k)) first_in down ∙ ap (is_full_after o past g) zeroth

    pub full_at_smallest : is_full_after o past g o.bmin.0 ≡ any_on (size_step o) (is_full o) (size_at w 0) (events_in w g 0)
    full_at_smallest = ap (is_full_after o past g) (sym zeroth) ∙ sym (full_is 0 first_in)

  -- what a taking answers, told by what was given alone
  pub answer_told : (g : Given) → take_answer w g ≡ answer_after o past g
  answer_told (ref a) =
      answer_by_sizes w a i.fitted.fit
      ∙ ap₂ (λ (full over : Bool). cond (eqb w.state.taken o.refs) 5 (cond full 6 (cond over 7 0))) (full_all (ref a)) (none_over (ref a))
      ∙ ap (λ (n : ℕ). cond (eqb n o.refs) 5 (cond (any_to (sizes o) (λ (k : ℕ). is_full_after o past (ref a) (at k))) 6 0)) count_is
  answer_told flush = flush_is_done w i.fitted.fit

  -- THE LAW of a reference: 5 where refs is reached, 6 where the stack of the smallest blocks would pass room, else done
  pub answer_after_lem : (a : ℕ) → take_answer w (ref a) ≡ cond (eqb w.state.taken o.refs) 5 (cond (is_full_after o past (ref a) o.bmin.0) 6 0)
  answer_after_lem a =
      answer_by_sizes w a i.fitted.fit
      ∙ ap₂ (λ (t u : Bool). cond (eqb w.state.taken o.refs) 5 (cond t 6 (cond u 7 0))) (full_by_smallest (ref a)) (none_over (ref a))
