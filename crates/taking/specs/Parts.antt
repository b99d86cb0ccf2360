-- What the private functions of this crate promise one another. A block is told by size: x k is the block at size k. No public contract cites
-- this page. Assumes nothing.
use Rattle.std.specs.Prelude.{ℕ, ◌+◌, ◌*◌, ◌≤◌, ◌<◌, ◌≡◌, Bool, not, ◌||◌, List, [], ◌∷◌, eqb, ltb, leb, length, get_or, replicate}
use Rattle.lists.specs.Members.{above}
use Rattle.lists.specs.Tables.{written_rows, set_lengths, over_groups, raised_groups}
use Rattle.lists.specs.Tests.{first_of, any_to, All≤}
use Rattle.cache.specs.Cache.{block_of}
use Rattle.cache.specs.Stack.{depth}
use Rattle.units.specs.Refusals.{outside_limits, short_stacks, short_counts, foreign_state, refs_reached, not_in_order}
use Rattle.order.specs.Limits.{rows_most, limits, within, sizes, rows, stack_need, count_need}
use Rattle.taking.specs.Places.{used_of, stack_at}
use Rattle.taking.specs.Plain.{topped, stacks_done}
use Rattle.taking.specs.Questions.{has}
use Rattle.taking.specs.Taking.{is_foreign}
use Rattle.taking.specs.declared.Opened.{Opened}
use Rattle.taking.specs.declared.references.Walk.{Walk}

-- ---- the refusals

-- refusals 1 to 4, from the state and the tables' lengths n and m
abbrev pub unfit_answer : Opened → ℕ → ℕ → ℕ
unfit_answer v n m =
    first_of
    ((not (within v.order), outside_limits)
    ∷ (ltb n (stack_need v.order), short_stacks)
    ∷ (ltb m (count_need v.order), short_counts)
    ∷ (is_foreign v, foreign_state)
    ∷ [])

-- so refusals 1 to 5 of a taking
abbrev pub early_answer : Opened → ℕ → ℕ → ℕ
early_answer v n m =
    first_of
    ((not (within v.order), outside_limits)
    ∷ (ltb n (stack_need v.order), short_stacks)
    ∷ (ltb m (count_need v.order), short_counts)
    ∷ (is_foreign v, foreign_state)
    ∷ (eqb v.taken v.order.refs, refs_reached)
    ∷ [])

-- refusals 1, 3, 4 and 8 of a question, from the state and the count table's length m
abbrev pub unaskable : Opened → ℕ → ℕ → ℕ → ℕ → ℕ
unaskable v m b s w =
    first_of
    ((not (within v.order), outside_limits)
    ∷ (ltb m (count_need v.order), short_counts)
    ∷ (is_foreign v, foreign_state)
    ∷ (not (has v.order b s w), not_in_order)
    ∷ [])

-- refusals 1, 2 and 4 of a flush, from the state and the stack table's length n
abbrev pub unflushable : Opened → ℕ → ℕ
unflushable v n =
    first_of
    ((not (within v.order), outside_limits)
    ∷ (ltb n (stack_need v.order), short_stacks)
    ∷ (is_foreign v, foreign_state)
    ∷ [])

-- what refusals 1 to 4 leave: the order's numbers are within their limits, tables of n and m entries are long enough, and the state is no foreign one
pub record Fit (v : Opened) (n m : ℕ) : Type 0 where
  pub numbers : All≤ (limits v.order)
  pub long : stack_need v.order ≤ n
  pub wide : count_need v.order ≤ m
  pub used : (k : ℕ) → k < sizes v.order → used_of v k ≤ v.order.room
  pub ceiling : v.taken ≤ v.order.refs

-- ---- the blocks

-- the block at size k, from that of the smallest size
abbrev pub wider_by : ℕ → ℕ → ℕ
wider_by first k = block_of k first

-- at block size k the stack is empty, or another block is on top of it
abbrev pub off_top : Opened → List ℕ → (ℕ → ℕ) → ℕ → Bool
off_top v st x k = eqb (used_of v k) 0 || not (eqb (x k) (get_or st (k * v.order.room) 0))

-- the block is on top of the stack of every block size
abbrev pub on_top : Opened → List ℕ → (ℕ → ℕ) → Bool
on_top v st x = not (any_to (sizes v.order) (off_top v st x))

-- ---- the walk

-- what is found at size k, and nothing past the sizes
abbrev pub walk_of : List Walk → ℕ → Walk
walk_of ws k = get_or ws k (record { place = 0; depths = [] })

-- a walk over the stack l has left where block x is or the stack ends, and has the depths of x there for the first r numbers of sets
pub record Walked (r : ℕ) (l : List ℕ) (x : ℕ) (w : Walk) : Type 0 where
  pub place : w.place ≡ length (above x l)
  pub long : length w.depths ≡ rows_most
  pub deep : (s : ℕ) → s < r → get_or w.depths s 0 ≡ depth s x l

-- all block sizes are looked at
abbrev pub Looked : Opened → List ℕ → (ℕ → ℕ) → List Walk → Type 0
Looked v st x ws = (k : ℕ) → k < sizes v.order → Walked (rows v.order) (stack_at v st k) (x k) (walk_of ws k)

-- found where the walk left within the used length; and the depths there
abbrev pub found_by : List ℕ → List Walk → ℕ → Bool
found_by us ws k = ltb (walk_of ws k).place (get_or us k 0)

abbrev pub deep_by : List Walk → ℕ → ℕ → ℕ
deep_by ws k s = get_or (walk_of ws k).depths s 0

-- the depths of one block size
abbrev pub depth_in : List ℕ → ℕ → ℕ
depth_in ds s = get_or ds s 0

-- ---- the counts

-- the largest number of 32 bits
abbrev pub count_most : ℕ
count_most = 4294967295

-- from the first depth of 0 on, the n depths are 0: two blocks that share no set at 2^s sets share none at more
abbrev pub Falling : ℕ → (ℕ → ℕ) → Type 0
Falling n d = (s t : ℕ) → s ≤ t → t < n → d s ≡ 0 → d t ≡ 0

-- a row of w counts for each depth is within m entries
pub record Rows (w m : ℕ) (ds : List ℕ) : Type 0 where
  pub inside : length ds * w ≤ m
  pub some : 1 ≤ w
  pub falling : Falling (length ds) (depth_in ds)

-- the m counts are enough for the order, the depths of each size fall, and no more references are taken than the order has
pub record Tabled (v : Opened) (m : ℕ) (ws : List Walk) : Type 0 where
  pub numbers : All≤ (limits v.order)
  pub wide : count_need v.order ≤ m
  pub ceiling : v.taken ≤ v.order.refs
  pub long : (k : ℕ) → k < sizes v.order → length (walk_of ws k).depths ≡ rows_most
  pub falling : (k : ℕ) → k < sizes v.order → Falling (rows v.order) (deep_by ws k)

-- what the walks found decides: a count to be raised is not below the references taken; and the counts after they are raised
abbrev pub over_by : Opened → List Walk → List ℕ → Bool
over_by v ws ct = over_groups v.order.ways (rows v.order) (found_by v.used ws) (deep_by ws) v.taken (sizes v.order) ct

abbrev pub raised_by : Opened → List Walk → List ℕ → List ℕ
raised_by v ws ct = raised_groups v.order.ways (rows v.order) (found_by v.used ws) (deep_by ws) (sizes v.order) ct

-- no count to be raised in the r rows from row `first` on is at the top of its range
abbrev pub Raisable : ℕ → ℕ → ℕ → (ℕ → ℕ) → List ℕ → Type 0
Raisable first r w d ct = (s : ℕ) → s < r → d s < w → get_or ct ((first + s) * w + d s) 0 < count_most

-- ---- the stacks

-- the state, with each used length below size n that of `top` there
abbrev pub with_lengths : Opened → (ℕ → List ℕ) → ℕ → Opened
with_lengths v top n = record { order = v.order; taken = v.taken; used = set_lengths top n v.used }

-- at some block size the walk left at room or past it
abbrev pub full_by : Opened → List Walk → Bool
full_by v ws = any_to (sizes v.order) (λ (k : ℕ). leb v.order.room (walk_of ws k).place)

-- at each block size the stack is within room, and the walk left below room
pub record Roomed (v : Opened) (x : ℕ → ℕ) (st : List ℕ) (ws : List Walk) : Type 0 where
  pub numbers : All≤ (limits v.order)
  pub long : stack_need v.order ≤ length st
  pub used : (k : ℕ) → k < sizes v.order → used_of v k ≤ v.order.room
  pub below : (k : ℕ) → k < sizes v.order → (walk_of ws k).place < v.order.room
  pub place : (k : ℕ) → k < sizes v.order → (walk_of ws k).place ≡ length (above (x k) (stack_at v st k))

-- each block is on top of its stack, and each used length is that of its stack
pub record Moved (v : Opened) (x : ℕ → ℕ) (st : List ℕ) (v' : Opened) (st' : List ℕ) : Type 0 where
  pub state : v' ≡ with_lengths v (topped v st x) (sizes v.order)
  pub stacks : st' ≡ stacks_done v st x

-- ---- a flush

-- each stack is within room, and all of them in the table
pub record Stacked (v : Opened) (st : List ℕ) : Type 0 where
  pub numbers : All≤ (limits v.order)
  pub long : stack_need v.order ≤ length st
  pub used : (k : ℕ) → k < sizes v.order → used_of v k ≤ v.order.room

-- as many zeros as stack k has entries
abbrev pub zeros_for : List ℕ → ℕ → List ℕ
zeros_for us k = replicate (get_or us k 0) 0

-- the entries of each stack are zero, and its used length is 0
pub record Emptied (v : Opened) (st : List ℕ) (v' : Opened) (st' : List ℕ) : Type 0 where
  pub state : v' ≡ with_lengths v (λ (k : ℕ). []) (sizes v.order)
  pub stacks : st' ≡ written_rows v.order.room (zeros_for v.used) (sizes v.order) st
