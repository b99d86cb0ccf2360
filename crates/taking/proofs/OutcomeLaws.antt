-- From what the walks found to the outcome of a taking: the code's tests are the page's, and the answer decides the rest.
-- Assumes nothing.
use Prim.Native.Nat.{ℕ, ◌+◌, ◌*◌, ◌<◌}
use mathlib.Core.Path.{◌≡◌, refl, sym, ap, ap₂, fun_ext, ◌∙◌}
use mathlib.Core.Bool.{Bool, false, cond, not, ◌&&◌}
use mathlib.Core.List.{List, [], ◌∷◌}
use native.Mathlib.Omega.{arith}
use lib.Dec.{eqb, ltb, leb}
use lib.ListN.{length, get_or}
use borrow.Author.Tests.{ne_eqb, ltb-true, leb-false, lt-leb}
use Rattle.lists.specs.Members.{above}
use Rattle.lists.specs.Tables.{over_row}
use Rattle.lists.specs.Tests.{any_to}
use Rattle.lists.proofs.Cases.{cases}
use Rattle.lists.proofs.MemberLaws.{mem_above, absent_above}
use Rattle.lists.proofs.RaiseLaws.{groups_same}
use Rattle.lists.proofs.TestLaws.{are_given, first_then, settled_done, settled_not, any_same, any_not}
use Rattle.cache.specs.Cache.{block_of, ref}
use Rattle.cache.proofs.SizeLaws.{block_wider}
use Rattle.cache.proofs.InclusionLaws.{depth_falls}
use Rattle.order.specs.Limits.{sizes, within, rows, stack_need, count_need}
use Rattle.taking.specs.Places.{used_of, stack_at, block_at, found_at, depth_at, full_at}
use Rattle.taking.specs.Plain.{over_all, state_done, stacks_done, counts_done}
use Rattle.taking.specs.Taking.{is_foreign, taken, some_size, take_answer, Takes}
use Rattle.taking.specs.World.{world}
use Rattle.sizes.specs.Size.{is_full, is_over}
use Rattle.taking.proofs.NeedLaws.{answer_by_sizes}
use Rattle.taking.proofs.TakenLaws.{full_each, over_each, taken_is}
use Rattle.taking.specs.Parts.{early_answer, Fit, wider_by, Looked, walk_of, found_by, deep_by, over_by, raised_by, full_by, Tabled, Roomed}
use Rattle.taking.specs.declared.Opened.{Opened}
use Rattle.taking.specs.declared.references.Walk.{Walk}
use Rattle.taking.proofs.LookLaws.{length_stack}

module _ (v : Opened) (st : List ℕ) (x : ℕ → ℕ) (m : ℕ) (ws : List Walk) (f : Fit v (length st) m) (seen : Looked v st x ws) where
  same_found : (k : ℕ) → k < sizes v.order → found_by v.used ws k ≡ found_at v st x k
  same_found k h =
      ap (λ (n : ℕ). ltb n (used_of v k)) ((seen k h).place)
      ∙ ap (ltb (length (above (x k) (stack_at v st k)))) (sym (length_stack v st m k f h))
      ∙ sym (mem_above (x k) (stack_at v st k))

  same_full : (k : ℕ) → k < sizes v.order → leb v.order.room ((walk_of ws k).place) ≡ full_at v st x k
  same_full k h =
      cases (found_at v st x k)
      (λ e.
      let left = ltb-true ((walk_of ws k).place) (used_of v k) (same_found k h ∙ e) in
      simp e (lt-leb v.order.room ((walk_of ws k).place) (omega (arith, f.used k h))))
      (λ e.
      let up = ap length (absent_above (x k) (stack_at v st k) e) in
      let left : (walk_of ws k).place ≡ used_of v k = (seen k h).place ∙ up ∙ length_stack v st m k f h in
      simp e (ap (leb v.order.room) left))

  pub full_is : full_by v ws ≡ any_to (sizes v.order) (full_at v st x)
  full_is = any_same (sizes v.order) (λ (k : ℕ). leb v.order.room ((walk_of ws k).place)) (full_at v st x) same_full

  pub over_is : (ct : List ℕ) → over_by v ws ct ≡ over_all v st ct x
  over_is ct =
      any_same (sizes v.order)
      (λ (k : ℕ). found_by v.used ws k && any_to (rows v.order) (over_row v.order.ways (k * rows v.order) (deep_by ws k) v.taken ct))
      (λ (k : ℕ). found_at v st x k && any_to (rows v.order) (over_row v.order.ways (k * rows v.order) (depth_at v st x k) v.taken ct))
      (λ k h.
      ap (λ (t : Bool). t && any_to (rows v.order) (over_row v.order.ways (k * rows v.order) (deep_by ws k) v.taken ct)) (same_found k h)
      ∙ ap (λ (t : Bool). found_at v st x k && t)
      (any_same (rows v.order) (over_row v.order.ways (k * rows v.order) (deep_by ws k) v.taken ct)
      (over_row v.order.ways (k * rows v.order) (depth_at v st x k) v.taken ct)
      (λ s g. ap (λ (n : ℕ). ltb n v.order.ways && leb v.taken (get_or ct ((k * rows v.order + s) * v.order.ways + n) 0))
      ((seen k h).deep s g))))

  pub counts_is : (ct : List ℕ) → raised_by v ws ct ≡ counts_done v st ct x
  counts_is ct =
      groups_same v.order.ways (rows v.order) (found_by v.used ws) (found_at v st x) (deep_by ws) (depth_at v st x)
      (sizes v.order) ct same_found (λ k s h g. (seen k h).deep s g)

  -- so the counting has what it asks for: two blocks that share no set share none at more sets
  pub tabled : Tabled v m ws
  tabled = record {
    numbers = f.numbers;
    wide = f.wide;
    ceiling = f.ceiling;
    long = λ k h. (seen k h).long;
    falling = λ k h s t le g e.
        let shallow = depth_falls s t le (x k) (stack_at v st k) in
        let here = (seen k h).deep s (omega arith) in
        let there = (seen k h).deep t g in
        omega arith;
  }

  -- and, where no walk left at room or past it, so has the moving
  pub roomed : full_by v ws ≡ false → Roomed v x st ws
  roomed none = record {
    numbers = f.numbers;
    long = f.long;
    used = f.used;
    below = λ k h. leb-false v.order.room (walk_of ws k).place (any_not (sizes v.order) (λ (k : ℕ). leb v.order.room (walk_of ws k).place) none k h);
    place = λ k h. (seen k h).place;
  }

-- the blocks of an address, made from that of the smallest size
pub same_blocks : (v : Opened) (a first : ℕ) → first ≡ block_of v.order.bmin.0 a → wider_by first ≡ block_at v a
same_blocks v a first e = fun_ext (λ k. ap (block_of k) e ∙ sym (block_wider v.order.bmin.0 k a))

-- ---- the answer

module _ (v : Opened) (st ct : List ℕ) (a : ℕ) where
  abbrev full : Bool
  full = some_size is_full (world v st ct) (ref a)

  abbrev over : Bool
  over = some_size is_over (world v st ct) (ref a)

  answer_is : take_answer (world v st ct) (ref a)
      ≡ cond (eqb (early_answer v (length st) (length ct)) 0) (cond full 6 (cond over 7 0)) (early_answer v (length st) (length ct))
  unfolding are_given
  answer_is =
      first_then
      ((not (within v.order), 1)
      ∷ (ltb (length st) (stack_need v.order), 2)
      ∷ (ltb (length ct) (count_need v.order), 3)
      ∷ (is_foreign v, 4)
      ∷ (eqb v.taken v.order.refs, 5)
      ∷ [])
      ((full, 6) ∷ (over, 7) ∷ []) refl

  pub answer_late : Fit v (length st) (length ct) → v.taken < v.order.refs → (t u : Bool)
      → any_to (sizes v.order) (full_at v st (block_at v a)) ≡ t → over_all v st ct (block_at v a) ≡ u
      → take_answer (world v st ct) (ref a) ≡ cond t 6 (cond u 7 0)
  answer_late f less t u p q =
      let short = ne_eqb v.taken v.order.refs (λ z. omega arith) in
      answer_by_sizes (world v st ct) a f
      ∙ simp short (ap₂ (λ (x y : Bool). cond x 6 (cond y 7 0)) (full_each v st ct a f ∙ p) (over_each v st ct a f ∙ q))

  -- ---- the outcome

  pub refused : (r : ℕ) → r ≡ take_answer (world v st ct) (ref a) → (r ≡ 0 → ⊥) → Takes (world v st ct) (ref a) r (world v st ct)
  refused r e ne = record {
    answer = e;
    left = sym (settled_not (take_answer (world v st ct) (ref a)) (taken (world v st ct) (ref a)) (world v st ct) (λ z. ne (e ∙ z)));
  }

  pub done : (v' : Opened) (st' ct' : List ℕ) → Fit v (length st) (length ct) → take_answer (world v st ct) (ref a) ≡ 0
      → v' ≡ state_done v st (block_at v a) → st' ≡ stacks_done v st (block_at v a) → ct' ≡ counts_done v st ct (block_at v a) → Takes (world v st ct)
      (ref a) 0 (world v' st' ct')
  done v' st' ct' f z p q r = record {
    answer = sym z;
    left =
        ap (λ (x : Opened). world x st' ct') p ∙ ap₂ (λ (x y : List ℕ). world (state_done v st (block_at v a)) x y) q r
        ∙ sym (taken_is v st ct a f)
        ∙ sym (settled_done (take_answer (world v st ct) (ref a)) (taken (world v st ct) (ref a)) (world v st ct) z);
  }
