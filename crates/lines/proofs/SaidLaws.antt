-- Two answers of a reader that say the same are the same: what is said tells the answer. Assumes nothing.
use Prim.Native.Nat.{ℕ}
use mathlib.Core.Path.{◌≡◌, refl, sym, ap, ◌∙◌}
use mathlib.Core.Bool.{cond}
use mathlib.Core.List.{List, [], ◌∷◌}
use lib.Dec.{eqb}
use lib.ListN.{length, get_or}
use Rattle.lines.specs.OrderLine.{OrderLine, Bmin, Bmax, Smax, Ways, Room, Refs, Counting, Begin, Refused as BadOrder}
use Rattle.lines.specs.TraceLine.{TraceLine, Ref, Escape, Refused as BadTrace, bad_at}
use Rattle.lines.specs.Said.{Said, trace_said, order_said}
use Rattle.lines.specs.declared.Kind.{Kind}
use Rattle.lines.specs.declared.Kind.TheVariants.{Read, Write, Fetch, Unknown}
use Rattle.lines.specs.declared.Kinds.{Kinds}
use Rattle.lines.specs.declared.Kinds.TheVariants.{All, Fetch as Fetches, Data}

-- ---- a trace line

kind_of : ℕ → Kind
kind_of label = cond (eqb label 0) Read (cond (eqb label 1) Write (cond (eqb label 2) Fetch Unknown))

trace_by : ℕ → ℕ → List ℕ → TraceLine
trace_by n column [] = bad_at n column
trace_by n column (label ∷ []) = Escape
trace_by n column (label ∷ a ∷ more) = Ref (kind_of label) (record { 0 = a })

trace_told : (t : TraceLine) → (let s = trace_said t in trace_by s.number s.column s.values) ≡ t
unfolding trace_by kind_of
trace_told (Ref Read a) = refl
trace_told (Ref Write a) = refl
trace_told (Ref Fetch a) = refl
trace_told (Ref Unknown a) = refl
trace_told Escape = refl
trace_told (BadTrace bad) = refl

pub trace_says : {t u : TraceLine} → t ≡ u → trace_said u ≡ trace_said t
trace_says e = ap trace_said (sym e)

pub trace_said_unique : (t u : TraceLine) → trace_said t ≡ trace_said u → t ≡ u
trace_said_unique t u e = sym (trace_told t) ∙ ap (λ (s : Said). trace_by s.number s.column s.values) e ∙ trace_told u

-- ---- an order line

-- by how many labels are counted
kinds_of : List ℕ → Kinds
kinds_of labels = cond (eqb (length labels) 4) All (cond (eqb (length labels) 1) Fetches Data)

place_by : ℕ → List ℕ → OrderLine
place_by place rest =
    cond (eqb place 0) (Bmin (get_or rest 0 0))
    (cond (eqb place 1) (Bmax (get_or rest 0 0))
    (cond (eqb place 2) (Smax (get_or rest 0 0))
    (cond (eqb place 3) (Ways (get_or rest 0 0))
    (cond (eqb place 4) (Room (get_or rest 0 0))
    (cond (eqb place 5) (Refs (get_or rest 0 0))
    (cond (eqb place 6) (Counting (kinds_of rest)) Begin))))))

order_by : ℕ → List ℕ → OrderLine
order_by n [] = BadOrder n
order_by n (place ∷ rest) = place_by place rest

order_told : (l : OrderLine) → order_by (order_said l).number (order_said l).values ≡ l
unfolding order_by place_by kinds_of
order_told (Bmin n) = refl
order_told (Bmax n) = refl
order_told (Smax n) = refl
order_told (Ways n) = refl
order_told (Room n) = refl
order_told (Refs n) = refl
order_told (Counting All) = refl
order_told (Counting Fetches) = refl
order_told (Counting Data) = refl
order_told Begin = refl
order_told (BadOrder n) = refl

pub order_says : {l m : OrderLine} → l ≡ m → order_said m ≡ order_said l
order_says e = ap order_said (sym e)

pub order_said_unique : (l m : OrderLine) → order_said l ≡ order_said m → l ≡ m
order_said_unique l m e = sym (order_told l) ∙ ap (λ (s : Said). order_by s.number s.values) e ∙ order_told m
