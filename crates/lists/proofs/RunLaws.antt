-- Laws of machines run over a list: two machines that stay related, and lists of what was not dropped.
-- Assumes nothing.
use Prim.Native.Nat.{suc, ◌≤◌}
use mathlib.Core.Path.{◌≡◌, refl, sym, ap, ap₂, ◌∙◌}
use mathlib.Core.Bool.{Bool, true, false, cond}
use mathlib.Core.List.{List, [], ◌∷◌, ◌++◌, map}
use native.Mathlib.Omega.{arith}
use lib.ListN.{length}
use Rattle.lists.specs.Runs.{answers, after, any_on, left_on, without, Each}
use Rattle.lists.proofs.Cases.{cases}

module _ {S S' E : Type 0} (step : S → E → S) (step' : S' → E → S') (Rel : S → S' → Type 0)
    (keeps : (s : S) (s' : S') (e : E) → Rel s s' → Rel (step s e) (step' s' e)) where
  pub after_rel : (s : S) (s' : S') (es : List E) → Rel s s' → Rel (after step s es) (after step' s' es)
  after_rel s s' [] r = r
  after_rel s s' (e ∷ es) r = after_rel (step s e) (step' s' e) es (keeps s s' e r)

module _ {S S' E O O' : Type 0} (step : S → E → S) (step' : S' → E → S') (out : S → E → O) (out' : S' → E → O')
    (Rel : S → S' → Type 0) (keeps : (s : S) (s' : S') (e : E) → Rel s s' → Rel (step s e) (step' s' e)) where
  -- a relation of the answers, at every place
  pub each_answer : (Q : O → O' → Type 0) → ((s : S) (s' : S') (e : E) → Rel s s' → Q (out s e) (out' s' e))
      → (s : S) (s' : S') (es : List E) → Rel s s' → Each Q (answers step out s es) (answers step' out' s' es)
  each_answer Q q s s' [] r = tt
  each_answer Q q s s' (e ∷ es) r = (q s s' e r, each_answer Q q (step s e) (step' s' e) es (keeps s s' e r))

  -- one machine's answers, told from the other's
  pub simulates : (f : O' → O) → ((s : S) (s' : S') (e : E) → Rel s s' → out s e ≡ f (out' s' e))
      → (s : S) (s' : S') (es : List E) → Rel s s' → answers step out s es ≡ map f (answers step' out' s' es)
  simulates f q s s' [] r = refl
  simulates f q s s' (e ∷ es) r = ap₂ ◌∷◌ (q s s' e r) (simulates f q (step s e) (step' s' e) es (keeps s s' e r))

  -- where a dropped thing leaves the second machine as it is, the second answers the rest as it did
  pub kept : (drop : O → Bool) → ((s : S) (s' : S') (e : E) → Rel s s' → drop (out s e) ≡ true → step' s' e ≡ s')
      → (s : S) (s' : S') (es : List E) → Rel s s'
      → answers step' out' s' (without drop (answers step out s es) es) ≡ without drop (answers step out s es) (answers step' out' s' es)
  kept drop stays s s' [] r = refl
  kept drop stays s s' (e ∷ es) r =
      let ih = kept drop stays (step s e) (step' s' e) es (keeps s s' e r) in
      cases (drop (out s e))
      (λ d. simp d (ap (λ (t : S'). answers step' out' t (without drop (answers step out (step s e) es) es)) (sym (stays s s' e r d)) ∙ ih))
      (λ d. simp d (ap (out' s' e ∷◌) ih))

pub after_snoc : {S E : Type 0} (step : S → E → S) (s : S) (es : List E) (e : E)
    → after step s (es ++ (e ∷ [])) ≡ step (after step s es) e
after_snoc step s [] e = refl
after_snoc step s (d ∷ es) e = after_snoc step (step s d) es e

-- what one thing more adds to what is left: itself, where it does not pass the test
pub left_snoc : {S E : Type 0} (step : S → E → S) (p : S → E → Bool) (s : S) (es : List E) (e : E)
    → left_on step p s (es ++ (e ∷ [])) ≡ left_on step p s es ++ cond (p (after step s es) e) [] (e ∷ [])
left_snoc step p s [] e = refl
left_snoc step p s (d ∷ es) e =
    let ih = left_snoc step p (step s d) es e in
    cases (p s d) (λ q. simp (q, ih)) (λ q. simp (q, ih))

pub after_append : {S E : Type 0} (step : S → E → S) (s : S) (a b : List E) → after step s (a ++ b) ≡ after step (after step s a) b
after_append step s [] b = refl
after_append step s (e ∷ a) b = after_append step (step s e) a b

pub answers_append : {S E O : Type 0} (step : S → E → S) (out : S → E → O) (s : S) (a b : List E)
    → answers step out s (a ++ b) ≡ answers step out s a ++ answers step out (after step s a) b
answers_append step out s [] b = refl
answers_append step out s (e ∷ a) b = ap (out s e ∷◌) (answers_append step out (step s e) a b)

pub length_answers : {S E O : Type 0} (step : S → E → S) (out : S → E → O) (s : S) (es : List E) → length (answers step out s es) ≡ length es
length_answers step out s [] = refl
length_answers step out s (e ∷ es) = ap suc (length_answers step out (step s e) es)

-- a test that nothing passes after any run from s
pub never_on : {S E : Type 0} (step : S → E → S) (p : S → E → Bool) (s : S) → ((l : List E) (e : E) → p (after step s l) e ≡ false)
    → (past es : List E) → any_on step p (after step s past) es ≡ false
never_on step p s h past [] = refl
never_on step p s h past (e ∷ es) =
    let ih = never_on step p s h (past ++ (e ∷ [])) es in
    let one = after_snoc step s past e in
    simp (h past e) (ap (λ (q : _). any_on step p q es) (sym one) ∙ ih)

pub without_map : {O A B : Type 0} (drop : O → Bool) (f : A → B) (r : List O) (l : List A)
    → map f (without drop r l) ≡ without drop r (map f l)
without_map drop f [] l = refl
without_map drop f (a ∷ r) [] = refl
without_map drop f (a ∷ r) (x ∷ l) =
    let ih = without_map drop f r l in
    cases (drop a) (λ e. simp (e, ih)) (λ e. simp (e, ih))

-- what is left of two lists, where the first has as many answers as things
pub without_append : {O A : Type 0} (drop : O → Bool) (p q : List O) (l m : List A) → length p ≡ length l
    → without drop (p ++ q) (l ++ m) ≡ without drop p l ++ without drop q m
without_append drop [] q [] m h = refl
without_append drop [] q (x ∷ l) m h = absurd (omega arith)
without_append drop (a ∷ p) q [] m h = absurd (omega arith)
without_append drop (a ∷ p) q (x ∷ l) m h =
    let ih = without_append drop p q l m (omega arith) in
    cases (drop a) (λ e. simp (e, ih)) (λ e. simp (e, ih))

pub length_without : {O A : Type 0} (drop : O → Bool) (r : List O) (l : List A) → length (without drop r l) ≤ length l
length_without drop [] l = omega arith
length_without drop (a ∷ r) [] = omega arith
length_without drop (a ∷ r) (x ∷ l) =
    let ih = length_without drop r l in
    cases (drop a) (λ e. simp e (omega arith)) (λ e. simp e (omega arith))
