-- Sequences of calls after an opening: the world is what was taken makes it. There are calls for every list, and they lead to one world.
-- Assumes nothing.
use Prim.Native.Nat.{ℕ, zero, suc}
use mathlib.Core.Path.{◌≡◌, refl, sym, ap, ◌∙◌, subst}
use mathlib.Core.Bool.{not}
use mathlib.Core.List.{List, [], ◌∷◌, ◌++◌, append_assoc, append-nil}
use native.Mathlib.Omega.{arith}
use lib.Dec.{ltb}
use lib.ListN.{length}
use borrow.Author.Tests.{not-false, ltb-false}
use Rattle.lists.proofs.TestLaws.{none_first, settled_done, settled_not, all_facts}
use Rattle.cache.specs.Cache.{Given}
use Rattle.order.specs.declared.Order.{Order}
use Rattle.order.specs.Limits.{limits, within, stack_need, count_need}
use Rattle.taking.specs.World.{World}
use Rattle.taking.specs.Opening.{open_answer, opened, Opens}
use Rattle.taking.specs.Questions.{Counted, misses_of}
use Rattle.taking.specs.Ratios.{Rated, ratios_of}
use Rattle.taking.specs.Taking.{Takes, take_answer, taken as taken_of}
use Rattle.calls.specs.Calls.{Call, give, ask_misses, ask_ratios, handed_back, Calls, none, taken, refused, counted, rated}
use Rattle.calls.proofs.HistoryLaws.{History, history_start, history_taken}

-- ---- what one call leaves

pub call_done : {w w' : World} {g : Given} → Takes w g 0 w' → w' ≡ taken_of w g
call_done {w} {w'} {g} c = c.left ∙ settled_done (take_answer w g) (taken_of w g) w (sym c.answer)

pub call_refused : {w w' : World} {g : Given} {n : ℕ} → Takes w g n w' → (n ≡ 0 → ⊥) → w' ≡ w
call_refused {w} {w'} {g} {n} c ne = c.left ∙ settled_not (take_answer w g) (taken_of w g) w (λ z. ne (c.answer ∙ z))

-- a question leaves all as it was
module _ (w : World) (b s n : ℕ) where
  pub misses_hand_back : (q : Counted) → q ≡ misses_of w.state w.counts b s n → handed_back q.state w ≡ w
  misses_hand_back q e = ap (λ (q : Counted). handed_back q.state w) e

  pub ratios_hand_back : (q : Rated) → q ≡ ratios_of w.state w.counts b s n → handed_back q.state w ≡ w
  ratios_hand_back q e = ap (λ (q : Rated). handed_back q.state w) e

-- ---- what any number of calls keeps: P of the world and of what was taken so far

module _ (P : World → List Given → Type 0)
    (more : (w : World) (past : List Given) (g : Given) → take_answer w g ≡ 0 → P w past → P (taken_of w g) (past ++ (g ∷ []))) where
  pub kept_by_calls : {w w' : World} {cs : List Call} {l : List Given} → Calls w cs l w' → (past : List Given) → P w past → P w' (past ++ l)
  kept_by_calls none past h = rw append-nil h
  kept_by_calls (taken {w} {w'} {w''} {g} {cs} {l} c rest) past h =
      subst (P w'') (append_assoc past (g ∷ []) l)
      (kept_by_calls rest (past ++ (g ∷ [])) (subst (λ (x : World). P x (past ++ (g ∷ []))) (sym (call_done c)) (more w past g (sym c.answer) h)))
  kept_by_calls (refused c rest) past h = kept_by_calls rest past (subst (λ (x : World). P x past) (sym (call_refused c (λ e. omega arith))) h)
  kept_by_calls (counted {w} {w''} {b} {s} {n} {q} e rest) past h =
      kept_by_calls rest past (subst (λ (x : World). P x past) (sym (misses_hand_back w b s n q e)) h)
  kept_by_calls (rated {w} {w''} {b} {s} {n} {q} e rest) past h =
      kept_by_calls rest past (subst (λ (x : World). P x past) (sym (ratios_hand_back w b s n q e)) h)

pub same_order : {w w' : World} {cs : List Call} {l : List Given} → Calls w cs l w' → w'.state.order ≡ w.state.order
same_order {w} calls = kept_by_calls (λ x past. x.state.order ≡ w.state.order) (λ x past g z e. e) calls [] refl

-- ---- there are calls, and one world that they lead to

-- what calls from w lead to
abbrev pub Led : World → List Call → Type 0
Led w cs = (l : List Given) × (w' : World) × Calls w cs l w'

led_on : (w : World) (g : Given) (cs : List Call) (n : ℕ) → n ≡ take_answer w g → Led (taken_of w g) cs → Led w cs → Led w (give g ∷ cs)
led_on w g cs zero e (l, w', rest) stay =
    (g ∷ l, w', taken (record { answer = e; left = sym (settled_done (take_answer w g) (taken_of w g) w (sym e)) }) rest)
led_on w g cs (suc n) e done (l, w', rest) =
    (l, w', refused (record { answer = e; left = sym (settled_not (take_answer w g) (taken_of w g) w (λ z. omega arith)) }) rest)

pub calls_there : (w : World) (cs : List Call) → Led w cs
calls_there w [] = ([], w, none)
calls_there w (give g ∷ cs) = led_on w g cs (take_answer w g) refl (calls_there (taken_of w g) cs) (calls_there w cs)
calls_there w (ask_misses b s n ∷ cs) = let rest = calls_there w cs in (rest.0, rest.1, counted refl rest.2)
calls_there w (ask_ratios b s n ∷ cs) = let rest = calls_there w cs in (rest.0, rest.1, rated refl rest.2)

-- ---- from an opening

module _ (o : Order) (w₀ w₁ : World) (opens : Opens o w₀ 0 w₁) where
  zero_answer : open_answer o w₀ ≡ 0
  zero_answer = sym opens.answer

  pub opened_is : w₁ ≡ opened o w₀
  opened_is = opens.left ∙ settled_done (open_answer o w₀) (opened o w₀) w₀ zero_answer

  pub history_opened : History w₁ []
  history_opened =
      let first = none_first (not (within o)) 0 _ zero_answer in
      let second = none_first (ltb (length w₀.stacks) (stack_need o)) 1 _ first.1 in
      let third = none_first (ltb (length w₀.counts) (count_need o)) 2 0 second.1 in
      subst (λ (x : World). History x []) (sym opened_is)
      (history_start o w₀ (all_facts (limits o) (not-false (within o) first.0)) (ltb-false (length w₀.stacks) (stack_need o) second.0)
      (ltb-false (length w₀.counts) (count_need o) third.0))

  module _ (cs : List Call) (l : List Given) (w : World) (calls : Calls w₁ cs l w) where
    pub history_after : History w l
    history_after = kept_by_calls History (λ x past g z h. history_taken x past h g z) calls [] history_opened

    pub order_after : w.state.order ≡ o
    order_after = same_order calls ∙ ap (λ (x : World). x.state.order) opened_is
