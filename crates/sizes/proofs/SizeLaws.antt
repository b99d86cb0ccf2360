-- What a block size holds after any events: its touches, its stack, and for each s and d how often the block was found at depth d. So its misses
-- are those of each cache by itself, and no count is ever over. Assumes nothing.
use Prim.Native.Nat.{ℕ, ◌+◌, ◌-◌, ◌*◌, ◌≤◌, ◌<◌}
use mathlib.Core.Path.{◌≡◌, refl, sym, ap, ◌∙◌}
use mathlib.Core.Bool.{true, false, cond, not, ◌&&◌}
use mathlib.Core.List.{List, [], ◌∷◌}
use native.Mathlib.Nat.{zero-add}
use native.Mathlib.Omega.{arith}
use lib.Dec.{eqb, ltb, leb, leb-suc-suc}
use lib.ListN.{length, get_or, replicate, length-replicate, get_or-replicate}
use borrow.Author.Tests.{ltb-true, ltb-false, lt-ltb, le-ltb, le-leb, lt-leb}
use Rattle.lists.specs.Members.{mem}
use Rattle.lists.specs.Runs.{answers, after, any_on}
use Rattle.lists.specs.Sums.{total, sum_to}
use Rattle.lists.specs.Tables.{raised_rows, over_row}
use Rattle.lists.proofs.BoolLaws.{or_none}
use Rattle.lists.proofs.Cases.{cases}
use Rattle.lists.proofs.MemberLaws.{length_front}
use Rattle.lists.proofs.RaiseLaws.{cell_in, length_raised, raised_at}
use Rattle.lists.proofs.SumLaws.{sum_to_same}
use Rattle.lists.proofs.TestLaws.{any_yes, any_none_of}
use Rattle.cache.specs.Cache.{Event, touch, empty, touched, missed, simulate}
use Rattle.cache.specs.Stack.{stack_step, stack_place, depth, places, at_depth}
use Rattle.cache.proofs.CountLaws.{misses_by_depth, hits_fit, fewer, place_count}
use Rattle.order.specs.declared.Order.{Order}
use Rattle.order.specs.Limits.{rows, span}
use Rattle.sizes.specs.Size.{Size, empty_size, counts_step, size_step, is_full, is_over, hits_in}

module _ (o : Order) where
  -- ---- one event

  pub length_step : (q : Size) (e : Event) → length (counts_step o q e) ≡ length q.counts
  length_step q (touch x) =
      cases (mem x q.stack) (λ f. simp f (length_raised o.ways 0 _ (rows o) q.counts)) (λ f. simp f)
  length_step q empty = refl

  count_step : (q : Size) (e : Event) (s d : ℕ) → span o ≤ length q.counts → s < rows o → d < o.ways
      → get_or (counts_step o q e) (s * o.ways + d) 0 ≡ get_or q.counts (s * o.ways + d) 0 + at_depth d (stack_place s q.stack e)
  count_step q (touch x) s d long h g =
      rw (place_count d s q.stack x)
      (cases (mem x q.stack)
      (λ f. simp f
      (ap (λ (n : ℕ). get_or (raised_rows o.ways 0 (λ (s : ℕ). depth s x q.stack) (rows o) q.counts) (n * o.ways + d) 0) (sym (zero-add s))
      ∙ raised_at o.ways 0 (λ (s : ℕ). depth s x q.stack) (rows o) q.counts (rw (zero-add (rows o)) long) s d h g
      ∙ ap (λ (n : ℕ). get_or q.counts (n * o.ways + d) 0 + cond (eqb d (depth s x q.stack)) 1 0) (zero-add s)))
      (λ f. simp f (omega arith)))
  count_step q empty s d long h g = omega arith

  -- 6 as its sentence says it, of a stack within room: the block is new and its stack is full
  pub full_new : (q : Size) (x : ℕ) → length q.stack ≤ o.room
      → is_full o q (touch x) ≡ (not (mem x q.stack) && leb o.room (length q.stack))
  full_new q x h =
      ap (ltb o.room) (length_front x q.stack)
      ∙ cases (mem x q.stack)
      (λ e. simp e (le-ltb o.room (length q.stack) h))
      (λ e. simp e (leb-suc-suc o.room (length q.stack)))

  -- 7 comes where the block is found and the count to be raised, at some s, is not below the touches so far
  pub over_some : (q : Size) (x s : ℕ) → mem x q.stack ≡ true → s < rows o → depth s x q.stack < o.ways
      → q.total ≤ get_or q.counts (s * o.ways + depth s x q.stack) 0 → is_over o q (touch x) ≡ true
  over_some q x s m h g f =
      let d = depth s x q.stack in
      let z : get_or q.counts ((0 + s) * o.ways + d) 0 ≡ get_or q.counts (s * o.ways + d) 0
      = ap (λ (n : ℕ). get_or q.counts (n * o.ways + d) 0) (zero-add s) in
      let here = le-leb q.total (get_or q.counts ((0 + s) * o.ways + d) 0) (omega arith) in
      simp m
      (any_yes (rows o) s (over_row o.ways 0 (λ (s : ℕ). depth s x q.stack) q.total q.counts) h (simp (lt-ltb d o.ways g, here)))

  -- ---- any events

  pub total_after : (q : Size) (es : List Event) → (after (size_step o) q es).total ≡ q.total + total touched es
  total_after q [] = omega arith
  total_after q (e ∷ es) = omega (arith, total_after (size_step o q e) es)

  pub stack_after : (q : Size) (es : List Event) → (after (size_step o) q es).stack ≡ after stack_step q.stack es
  stack_after q [] = refl
  stack_after q (e ∷ es) = stack_after (size_step o q e) es

  pub length_after : (q : Size) (es : List Event) → length (after (size_step o) q es).counts ≡ length q.counts
  length_after q [] = refl
  length_after q (e ∷ es) = length_after (size_step o q e) es ∙ length_step q e

  pub count_after : (q : Size) (es : List Event) (s d : ℕ) → span o ≤ length q.counts → s < rows o → d < o.ways
      → get_or (after (size_step o) q es).counts (s * o.ways + d) 0
      ≡ get_or q.counts (s * o.ways + d) 0 + total (at_depth d) (answers stack_step (stack_place s) q.stack es)
  count_after q [] s d long h g = omega arith
  count_after q (e ∷ es) s d long h g =
      let ih = count_after (size_step o q e) es s d (rw (length_step q e) long) h g in
      let one = count_step q e s d long h g in
      omega arith

  -- where no event is refused with 6, the stack stays within room
  pub roomy_after : (q : Size) (es : List Event) → length q.stack ≤ o.room → any_on (size_step o) (is_full o) q es ≡ false
      → length (after (size_step o) q es).stack ≤ o.room
  roomy_after q [] h e = h
  roomy_after q (x ∷ es) h e =
      let both = or_none (is_full o q x) (any_on (size_step o) (is_full o) (size_step o q x) es) e in
      roomy_after (size_step o q x) es (ltb-false o.room (length (stack_step q.stack x)) both.0) both.1

  -- ---- from nothing

  abbrev pub size_over : List Event → Size
  size_over es = after (size_step o) (empty_size o) es

  pub count_over_lem : (es : List Event) (s d : ℕ) → s < rows o → d < o.ways
      → get_or (size_over es).counts (s * o.ways + d) 0 ≡ total (at_depth d) (places s es)
  count_over_lem es s d h g =
      let blank : ◌≡◌ {A = ℕ} (get_or (replicate (span o) 0) (s * o.ways + d) 0) 0
      = get_or-replicate (span o) (s * o.ways + d) 0 0 (cell_in o.ways s (rows o) d h g) in
      let all = count_after (empty_size o) es s d (rw (length-replicate {A = ℕ} (span o) 0) (omega arith)) h g in
      omega arith

  module _ (es : List Event) (s w : ℕ) (h : s < rows o) (g : w ≤ o.ways) where
    hits_over : hits_in o (size_over es).counts s w ≡ sum_to (λ d. total (at_depth d) (places s es)) w
    hits_over =
        sum_to_same (λ (d : ℕ). get_or (size_over es).counts (s * o.ways + d) 0) (λ d. total (at_depth d) (places s es)) w
        (λ d f. count_over_lem es s d h (omega arith))

    -- THE LAW behind demand 2: the touches less the hits are the misses of the cache by itself, and the hits are no more than the touches
    pub size_misses : (size_over es).total - hits_in o (size_over es).counts s w ≡ total missed (simulate s w es)
    size_misses = let t = total_after (empty_size o) es in let x = hits_over in let m = misses_by_depth s w es in omega arith

    pub size_hits : hits_in o (size_over es).counts s w ≤ (size_over es).total
    size_hits = let t = total_after (empty_size o) es in let x = hits_over in let m = hits_fit s w es in omega arith

  -- 7 never comes: a count that is to be raised is below the touches, for the first touch was new
  pub never_over : (es : List Event) (e : Event) → is_over o (size_over es) e ≡ false
  never_over es (touch x) =
      cases (mem x (size_over es).stack)
      (λ m.
      simp m
      (any_none_of (rows o) (over_row o.ways 0 (λ (s : ℕ). depth s x (size_over es).stack) (size_over es).total (size_over es).counts) (under m)))
      (λ m. simp m)
    where
      under : mem x (size_over es).stack ≡ true → (s : ℕ) → s < rows o
          → over_row o.ways 0 (λ (s : ℕ). depth s x (size_over es).stack) (size_over es).total (size_over es).counts s ≡ false
      under m s h =
          let d = depth s x (size_over es).stack in
          cases (ltb d o.ways)
          (λ f.
          let less = fewer d s x es (ap (mem x) (sym (stack_after (empty_size o) es)) ∙ m) in
          let same = count_over_lem es s d h (ltb-true d o.ways f) in
          let t = total_after (empty_size o) es in
          let z : get_or (size_over es).counts ((0 + s) * o.ways + d) 0 ≡ get_or (size_over es).counts (s * o.ways + d) 0
          = ap (λ (n : ℕ). get_or (size_over es).counts (n * o.ways + d) 0) (zero-add s) in
          simp f (lt-leb (size_over es).total (get_or (size_over es).counts ((0 + s) * o.ways + d) 0) (omega arith)))
          (λ f. simp f)
  never_over es empty = refl
