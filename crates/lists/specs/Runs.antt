-- A machine that is given one thing after the other: its answers, and its state at the end.
-- Assumes nothing.
use Rattle.std.specs.Prelude.{Bool, false, cond, ◌||◌, List, [], ◌∷◌}

-- the answer to each thing, from a state on
abbrev pub answers : {S E O : Type 0} → (S → E → S) → (S → E → O) → S → List E → List O
answers step out s [] = []
answers step out s (e ∷ es) = out s e ∷ answers step out (step s e) es

-- the state after all of them
abbrev pub after : {S E : Type 0} → (S → E → S) → S → List E → S
after step s [] = s
after step s (e ∷ es) = after step (step s e) es

-- some thing passes the test, in the state that it meets
abbrev pub any_on : {S E : Type 0} → (S → E → S) → (S → E → Bool) → S → List E → Bool
any_on step p s [] = false
any_on step p s (e ∷ es) = p s e || any_on step p (step s e) es

-- the things that do not pass the test, in the state that each meets
abbrev pub left_on : {S E : Type 0} → (S → E → S) → (S → E → Bool) → S → List E → List E
left_on step p s [] = []
left_on step p s (e ∷ es) = cond (p s e) (left_on step p (step s e) es) (e ∷ left_on step p (step s e) es)

-- of a list of things and a list of answers, one each: the things whose answer does not pass the test
abbrev pub without : {O A : Type 0} → (O → Bool) → List O → List A → List A
without drop [] l = []
without drop (a ∷ r) [] = []
without drop (a ∷ r) (x ∷ l) = cond (drop a) (without drop r l) (x ∷ without drop r l)

-- two lists are of one length, and R holds of the two that stand at each place
abbrev pub Each : {A B : Type 0} → (A → B → Type 0) → List A → List B → Type 0
Each R [] [] = Unit {0}
Each R [] (b ∷ bs) = ⊥
Each R (a ∷ l) [] = ⊥
Each R (a ∷ l) (b ∷ bs) = R a b × Each R l bs
