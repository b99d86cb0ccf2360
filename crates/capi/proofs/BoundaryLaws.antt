-- A state and its 15 numbers say the same, so a call's contract and the library's own give one another. In the order of `Boundary`.
-- Assumes nothing.
use Prim.Native.Nat.{ℕ}
use mathlib.Core.Path.{◌≡◌, sym, ap, ◌∙◌}
use mathlib.Core.List.{List}
use native.Mathlib.Omega.{arith}
use Rattle.std.proofs.lemmas.Grind.{common_steps}
use lib.ListN.{length, take, drop}
use lib.Seq.{take-length}
use Rattle.lists.specs.Tests.{settled}
use Rattle.lists.proofs.PartLaws.{read_all}
use Rattle.lists.proofs.TestLaws.{settled_in}
use Rattle.cache.specs.Cache.{Given}
use Rattle.order.specs.declared.Order.{Order}
use Rattle.taking.specs.declared.Opened.{Opened}
use Rattle.taking.specs.World.{World, world}
use Rattle.taking.specs.Opening.{Opens, open_answer, opened}
use Rattle.taking.specs.Taking.{Takes, take_answer, taken}
use Rattle.capi.specs.Boundary.{state_of, numbers_of, Says, Lent, lent, world_in, tables_in, lent_by, CallsOpen, CallsTake}

-- ---- what crosses

-- a state with other used lengths
abbrev pub with_used : Opened → List ℕ → Opened
with_used v u = record { order = v.order; taken = v.taken; used = u }

-- the first seven numbers, and the other eight
pub state_read : (l used : List ℕ) → length l ≡ 15 → used ≡ take 8 (drop 7 l) → Says l (with_used (state_of l) used)
state_read l used h e =
    let rest : take 8 (drop 7 l) ≡ drop 7 l = grind (arith, common_steps, take-length) in
    record {
      state = ap (with_used (state_of l)) (e ∙ rest);
      numbers_back = ap (λ (u : List ℕ). numbers_of (with_used (state_of l) u)) (e ∙ rest ∙ sym (read_all 8 7 l h)) ∙ read_all 15 0 l h;
    }

-- ---- opening

module _ (o : Order) (l : Lent) where
  pub open_called : {n : ℕ} {w : World} {numbers : List ℕ} → Opens o (tables_in l) n w → numbers ≡ numbers_of w.state
      → CallsOpen o l n (lent numbers w.stacks w.counts)
  open_called {w = w} call put = record {
    answer = call.answer;
    left =
        ap (λ (x : List ℕ). lent x w.stacks w.counts) put
        ∙ ap lent_by call.left
        ∙ settled_in lent_by (open_answer o (tables_in l)) (opened o (tables_in l)) (tables_in l);
  }

  -- and back: a call is the library's opening
  pub opens_of_call : {n : ℕ} {l' : Lent} → CallsOpen o l n l' → Opens o (tables_in l) n (world_in l')
  opens_of_call call = record {
    answer = call.answer;
    left = ap world_in call.left ∙ settled_in world_in (open_answer o (tables_in l)) (lent_by (opened o (tables_in l))) (lent_by (tables_in l));
  }

-- ---- taking

module _ (l : Lent) (g : Given) where
  -- a refused taking writes back the numbers that it read
  pub take_called : {v : Opened} {n : ℕ} {w : World} {numbers : List ℕ} → Says l.numbers v → Takes (world v l.stacks l.counts) g n w
      → numbers ≡ numbers_of w.state → CallsTake l g n (lent numbers w.stacks w.counts)
  take_called {v} {w = w} says call put =
      let from = world v l.stacks l.counts in
      let same : from ≡ world_in l = ap (λ (x : Opened). world x l.stacks l.counts) says.state in
      let back : lent_by from ≡ l = ap (λ (x : List ℕ). lent x l.stacks l.counts) says.numbers_back in
      record {
        answer = call.answer ∙ ap (λ (x : World). take_answer x g) same;
        left =
            ap (λ (x : List ℕ). lent x w.stacks w.counts) put
            ∙ ap lent_by call.left
            ∙ settled_in lent_by (take_answer from g) (taken from g) from
            ∙ ap (λ (x : World). settled (take_answer x g) (lent_by (taken x g)) (lent_by from)) same
            ∙ ap (settled (take_answer (world_in l) g) (lent_by (taken (world_in l) g))) back;
      }

  -- and back: a call is the library's taking
  pub takes_of_call : {n : ℕ} {l' : Lent} → CallsTake l g n l' → Takes (world_in l) g n (world_in l')
  takes_of_call call = record {
    answer = call.answer;
    left = ap world_in call.left ∙ settled_in world_in (take_answer (world_in l) g) (lent_by (taken (world_in l) g)) l;
  }
