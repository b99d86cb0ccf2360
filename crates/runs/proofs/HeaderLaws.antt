-- Before the trace, the lines of the numbers and of the kinds: one that is done is the one that comes next of an order. Assumes nothing.
use Prim.Native.Nat.{ℕ, ◌+◌, ◌≤◌, ◌<◌}
use mathlib.Core.Path.{◌≡◌, refl, sym, ap, ◌∙◌, subst}
use mathlib.Core.Bool.{true, false, cond, true≢false}
use mathlib.Core.List.{List, [], ◌∷◌, ◌++◌}
use native.Mathlib.Omega.{arith}
use lib.Dec.{eqb}
use lib.ListN.{length, take, get_or, length-set, length-take}
use borrow.Author.Tests.{eqb-true}
use Rattle.lists.proofs.Cases.{both_picked}
use Rattle.lists.proofs.LengthLaws.{six_cases}
use Rattle.lines.specs.declared.Kinds.{Kinds}
use Rattle.lines.specs.declared.Kinds.TheVariants.{All}
use Rattle.lines.specs.OrderLine.{OrderLine, Bmin, Bmax, Smax, Ways, Room, Refs, Counting}
use Rattle.reading.specs.declared.Head.{Head}
use Rattle.reading.specs.declared.Reading.{Reading}
use Rattle.reading.specs.Reading.{Step, kinds_next, begin_next, Desk, world_of, Outcome, answered, stays}
use Rattle.reading.specs.Head.{with_number, number_at, kinds_at}
use Rattle.reading.specs.Meaning.{tallied_in}
use Rattle.runs.specs.Input.{is_begin, order_in, kinds_in}
use Rattle.runs.proofs.MeaningLaws.{Stands}

-- the lines of an order's six numbers and of its kinds
abbrev pub said_by : Head → List OrderLine
said_by h =
    Bmin (get_or h.numbers 0 0)
    ∷ Bmax (get_or h.numbers 1 0)
    ∷ Smax (get_or h.numbers 2 0)
    ∷ Ways (get_or h.numbers 3 0)
    ∷ Room (get_or h.numbers 4 0)
    ∷ Refs (get_or h.numbers 5 0)
    ∷ Counting h.kinds
    ∷ []

-- what the lines so far read as, in a state before the trace: the stage says how many they are
pub record Heading (v : Reading) (said : List OrderLine) : Type 0 where
  pub stage : v.stage ≤ begin_next
  pub six : length v.head.numbers ≡ 6
  pub kinds : v.stage ≤ kinds_next → v.head.kinds ≡ All
  pub reads : said ≡ take v.stage (said_by v.head)
  pub tally : v.tally ≡ tallied_in []
  pub clear : v.column ≡ 0

-- the begin line is done: the trace begins, and none of its lines has come
pub record Begun (said : List OrderLine) (o : Outcome) : Type 0 where
  pub order : o.left.reading.opened.order ≡ order_in said
  pub kinds : o.left.reading.head.kinds ≡ kinds_in said
  pub stands : Stands o.left []

-- the answer to the line l is n
pub record Headed (d : Desk) (said : List OrderLine) (l : OrderLine) (n : ℕ) (o : Outcome) : Type 0 where
  pub answer : o.answer ≡ n
  pub clear : o.left.reading.column ≡ 0
  pub going : o.answer ≡ 0 → is_begin l ≡ false → Heading o.left.reading (said ++ (l ∷ [])) × (world_of o.left ≡ world_of d)
  pub begun : o.answer ≡ 0 → is_begin l ≡ true → Begun said o

-- a head of these numbers and kinds
abbrev head_of : List ℕ → Kinds → Head
head_of numbers k = record { numbers = numbers; kinds = k }

-- the line of number `place` is l, whatever the head said before
abbrev Placed : ℕ → ℕ → OrderLine → Head → Type 0
Placed place n l h = take place (said_by h) ++ (l ∷ []) ≡ take (place + 1) (said_by (with_number place n h))

module _ (d : Desk) (said : List OrderLine) (h : Heading d.reading said) where
  abbrev v : Reading
  v = d.reading

  pub so_far : (n : ℕ) → v.stage ≡ n → said ≡ take n (said_by v.head)
  so_far n at = h.reads ∙ ap (λ (m : ℕ). take m (said_by v.head)) at

  pub stage_is : v.stage ≡ length said
  stage_is = omega (arith, h.stage, ap length h.reads ∙ length-take v.stage (said_by v.head))

  pub few_said : length said ≤ 7
  few_said = omega (arith, h.stage, stage_is)

  pub refuses : (l : OrderLine) → Headed d said l 10 (stays (answered 10 v) d)
  refuses l = record { answer = refl; clear = h.clear; going = λ e. absurd (omega arith); begun = λ e. absurd (omega arith) }

  pub number_headed : (place n : ℕ) (l : OrderLine) → place < 6 → is_begin l ≡ false
      → ((a b c d e f : ℕ) (k : Kinds) → Placed place n l (head_of (a ∷ b ∷ c ∷ d ∷ e ∷ f ∷ []) k))
      → Headed d said l (cond (eqb (length said) place) 0 10) (stays (number_at place n v) d)
  number_headed place n l p other placed =
      subst (λ (m : ℕ). Headed d said l (cond (eqb m place) 0 10) (stays (number_at place n v) d)) stage_is
      (both_picked (λ (m : ℕ) (s : Step). Headed d said l m (stays s d)) (eqb v.stage place)
      (λ e.
      let at = eqb-true v.stage place e in
      record {
        answer = refl;
        clear = h.clear;
        going = λ z f. (
          record {
            stage = omega arith;
            six = length-set v.head.numbers place n ∙ h.six;
            kinds = λ g. h.kinds (omega arith);
            reads = ap (λ (s : List OrderLine). s ++ (l ∷ [])) (so_far place at)
                ∙ six_cases (λ (x : List ℕ). Placed place n l (head_of x v.head.kinds))
                (λ a b c d e f. placed a b c d e f v.head.kinds) v.head.numbers h.six;
            tally = h.tally;
            clear = h.clear;
          },
          refl,
        );
        begun = λ z f. absurd (true≢false (sym f ∙ other));
      })
      (λ e. refuses l))

  pub kinds_headed : (k : Kinds) → Headed d said (Counting k) (cond (eqb (length said) kinds_next) 0 10) (stays (kinds_at k v) d)
  kinds_headed k =
      subst (λ (m : ℕ). Headed d said (Counting k) (cond (eqb m kinds_next) 0 10) (stays (kinds_at k v) d)) stage_is
      (both_picked (λ (m : ℕ) (s : Step). Headed d said (Counting k) m (stays s d)) (eqb v.stage kinds_next)
      (λ e.
      let at = eqb-true v.stage kinds_next e in
      record {
        answer = refl;
        clear = h.clear;
        going = λ z f. (
          record {
            stage = omega arith;
            six = h.six;
            kinds = λ g. absurd (omega arith);
            reads = ap (λ (s : List OrderLine). s ++ (Counting k ∷ [])) (so_far kinds_next at);
            tally = h.tally;
            clear = h.clear;
          },
          refl,
        );
        begun = λ z f. absurd (true≢false (sym f));
      })
      (λ e. refuses (Counting k)))
