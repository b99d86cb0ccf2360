-- The counts and the depths of one block size, cut out of the tables of all: what the code asks of them, and what it does there, is what the
-- page has at that size. Assumes nothing.
use Prim.Native.Nat.{ℕ, ◌+◌, ◌-◌, ◌*◌, ◌≤◌, ◌<◌}
use mathlib.Core.Path.{◌≡◌, sym, ap, ◌∙◌}
use mathlib.Core.Bool.{Bool, true, false, ◌&&◌}
use mathlib.Core.List.{List, ◌++◌}
use native.Mathlib.Nat.{add-mul}
use native.Mathlib.Omega.{arith}
use lib.Dec.{ltb, leb}
use lib.ListN.{length, take, drop, get_or}
use lib.Seq.{length-take-le, get_or-take, get_or-drop}
use borrow.Author.Tests.{lt-ltb, leb-false}
use Rattle.lists.specs.Tables.{raised_rows, raised_groups, over_row}
use Rattle.lists.specs.Tests.{any_to}
use Rattle.lists.proofs.PartLaws.{row_in, rows_le}
use Rattle.lists.proofs.BoolLaws.{and_false_of}
use Rattle.lists.proofs.RaiseLaws.{raised_same, groups_past}
use Rattle.lists.proofs.TestLaws.{any_same, any_not}
use Rattle.lists.proofs.TopRowLaws.{cell_past, over_rest, raised_rest}
use Rattle.order.specs.Limits.{sizes, rows}
use Rattle.taking.specs.Parts.{Rows, Tabled, Raisable, depth_in, walk_of, deep_by, found_by, over_by}
use Rattle.taking.specs.declared.Opened.{Opened}
use Rattle.taking.specs.declared.references.Walk.{Walk}

-- what is asked at size k: the block is found there, and a count to be raised is over
abbrev pub over_size : Opened → List Walk → List ℕ → ℕ → Bool
over_size v ws ct k =
    found_by v.used ws k && any_to (rows v.order) (over_row v.order.ways (k * rows v.order) (deep_by ws k) v.taken ct)

module _ (v : Opened) (m : ℕ) (ws : List Walk) (k : ℕ) (t : Tabled v m ws) (h : k < sizes v.order) where
  -- the depths there, and where the counts start
  abbrev pub depths : List ℕ
  depths = take (rows v.order) (walk_of ws k).depths

  abbrev pub start : ℕ
  start = k * rows v.order * v.order.ways

  long : length depths ≡ rows v.order
  long = length-take-le (rows v.order) (walk_of ws k).depths (omega (arith, t.numbers, t.long k h))

  deep : (s : ℕ) → s < rows v.order → depth_in depths s ≡ deep_by ws k s
  deep s g = get_or-take (rows v.order) (walk_of ws k).depths s 0 g

  inside : start + rows v.order * v.order.ways ≤ m
  inside =
      omega (
        arith,
        rows_le (k * rows v.order + rows v.order) (sizes v.order * rows v.order) v.order.ways (row_in k (sizes v.order) (rows v.order) h),
        add-mul (k * rows v.order) (rows v.order) v.order.ways,
        t.wide,
      )

  pub rows_there : Rows v.order.ways (m - start) depths
  rows_there = record {
    inside = rw long (omega (arith, inside));
    some = omega (arith, t.numbers);
    falling =
        λ i j le g e. let here : i < rows v.order = omega (arith, long) in let there : j < rows v.order = omega (arith, long) in
        deep j there ∙ t.falling k h i j le there (sym (deep i here) ∙ e);
  }

  pub over_there : (ct : List ℕ) → any_to (length depths) (over_row v.order.ways 0 (depth_in depths) v.taken (drop start ct))
      ≡ any_to (rows v.order) (over_row v.order.ways (k * rows v.order) (deep_by ws k) v.taken ct)
  over_there ct =
      ap (λ (n : ℕ). any_to n (over_row v.order.ways 0 (depth_in depths) v.taken (drop start ct))) long
      ∙ any_same (rows v.order) (over_row v.order.ways 0 (depth_in depths) v.taken (drop start ct))
      (over_row v.order.ways (k * rows v.order) (deep_by ws k) v.taken ct)
      (λ s g.
      over_rest v.order.ways (k * rows v.order) (depth_in depths) v.taken ct s
      ∙ ap (λ (d : ℕ). ltb d v.order.ways && leb v.taken (get_or ct ((k * rows v.order + s) * v.order.ways + d) 0)) (deep s g))

  pub raised_there : (ct : List ℕ) → length ct ≡ m
      → take start ct ++ raised_rows v.order.ways 0 (depth_in depths) (length depths) (drop start ct)
      ≡ raised_rows v.order.ways (k * rows v.order) (deep_by ws k) (rows v.order) ct
  raised_there ct e =
      ap (λ (n : ℕ). take start ct ++ raised_rows v.order.ways 0 (depth_in depths) n (drop start ct)) long
      ∙ raised_rest v.order.ways (k * rows v.order) (depth_in depths) (rows v.order) ct (omega (arith, inside))
      ∙ raised_same v.order.ways (k * rows v.order) (depth_in depths) (deep_by ws k) (rows v.order) ct deep

  -- where no count of the table is over, each to be raised there can go up by one, also once those of the sizes before are raised, in c
  pub below_there : (ct c : List ℕ) → over_by v ws ct ≡ false → found_by v.used ws k ≡ true
      → c ≡ raised_groups v.order.ways (rows v.order) (found_by v.used ws) (deep_by ws) k ct
      → Raisable 0 (length depths) v.order.ways (depth_in depths) (drop start c)
  below_there ct c none found e s g under =
      let here : s < rows v.order = omega (arith, long) in
      let d = deep_by ws k s in
      let same = deep s here in
      let row =
      any_not (rows v.order) (over_row v.order.ways (k * rows v.order) (deep_by ws k) v.taken ct)
      (and_false_of (found_by v.used ws k) _ (any_not (sizes v.order) (over_size v ws ct) none k h) found) s here in
      let cell = (k * rows v.order + s) * v.order.ways + d in
      let below = leb-false v.taken (get_or ct cell 0) (and_false_of (ltb d v.order.ways) _ row (lt-ltb d v.order.ways (omega arith))) in
      let past = groups_past v.order.ways (rows v.order) (found_by v.used ws) (deep_by ws) k ct cell (omega (arith, add-mul (k * rows v.order) s v.order.ways)) in
      let at : start + ((0 + s) * v.order.ways + depth_in depths s) ≡ cell =
      cell_past v.order.ways (k * rows v.order) s (depth_in depths s) ∙ ap (λ (n : ℕ). (k * rows v.order + s) * v.order.ways + n) same in
      rw (get_or-drop, at, e, past) (omega (arith, t.numbers, t.ceiling))
