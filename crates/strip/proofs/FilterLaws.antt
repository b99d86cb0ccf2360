-- The filter is the direct-mapped cache: what it keeps from empty on is `kept_of`, and its entries at the end are the last blocks.
-- The idea: entry i tells set i whole, since that has at most one block. Assumes nothing.
use Prim.Native.Nat.{ℕ, zero, suc, ◌^◌, ◌≤◌, ◌<◌}
use mathlib.Core.Path.{◌≡◌, refl, sym, ap, ap₂, ◌∙◌}
use mathlib.Core.Bool.{Bool, true, false, cond}
use mathlib.Core.List.{List, [], ◌∷◌, ◌++◌, map}
use native.Mathlib.Omega.{arith}
use lib.Dec.{eqb}
use lib.ListN.{length, drop, get_or, length-set}
use lib.Seq.{get_or-set_same, get_or-set_other, drop-set-lt}
use borrow.Author.Tests.{eqb-true, eqb-false, eq-eqb, ne_eqb}
use Rattle.lists.specs.Members.{mem, keep}
use Rattle.lists.specs.Runs.{answers, after, without}
use Rattle.lists.specs.Tables.{zeroed, values_to}
use Rattle.lists.proofs.Cases.{cases}
use Rattle.lists.proofs.RunLaws.{length_without}
use Rattle.lists.proofs.ZeroLaws.{length_zeroed, drop_zeroed, get_d_zeroed, zeroed_same, values_are}
use Rattle.cache.specs.Cache.{block_of, set_of, touch, is_hit, Sets, empty_sets, refer, cache_step, cache_answer, simulate, touches_of}
use Rattle.cache.proofs.SetLaws.{set_below}
use Rattle.strip.specs.declared.Filter.{Filter}
use Rattle.strip.specs.Strip.{kept_of, last_plus_one, entry_of}
use Rattle.strip.specs.Filter.{place_of, is_held, filter_step, kept_from, filter_after, Keeps}

-- ---- an entry and its set

-- the set that an entry tells: empty where the entry is zero, else the block one below it
abbrev pub set_in : ℕ → List ℕ
set_in zero = []
set_in (suc x) = x ∷ []

-- a block is in it where the entry is its number plus one: block 0 is no empty entry
pub mem_set_in : (x e : ℕ) → mem x (set_in e) ≡ eqb e (suc x)
mem_set_in x zero = sym (ne_eqb 0 (suc x) (λ q. omega arith))
mem_set_in x (suc y) =
    cases (eqb x y)
    (λ e. let q = eqb-true x y e in simp e (sym (eq-eqb (suc y) (suc x) (omega arith))))
    (λ e. let q = eqb-false x y e in simp e (sym (ne_eqb (suc y) (suc x) (λ r. q (omega arith)))))

refer_set_in : (x e : ℕ) → refer 1 x (set_in e) ≡ x ∷ []
refer_set_in x zero = refl
refer_set_in x (suc y) = cases (eqb x y) (λ e. simp e) (λ e. simp e)

-- ---- the table and the cache, step by step

step_same : (b s a i : ℕ) (t : List ℕ) → 2 ^ s ≤ length t → eqb i (place_of b s a) ≡ true → get_or (filter_step b s t a) i 0 ≡ suc (block_of b a)
step_same b s a i t wide e =
    ap (λ (j : ℕ). get_or (filter_step b s t a) j 0) (eqb-true i (place_of b s a) e)
    ∙ get_or-set_same t (place_of b s a) (suc (block_of b a)) 0 (omega (arith, set_below s (block_of b a)))

step_other : (b s a i : ℕ) (t : List ℕ) → eqb i (place_of b s a) ≡ false → get_or (filter_step b s t a) i 0 ≡ get_or t i 0
step_other b s a i t e = get_or-set_other t (place_of b s a) i (suc (block_of b a)) 0 (eqb-false i (place_of b s a) e)

-- each set of the cache is what its entry tells
abbrev Mirrors : ℕ → List ℕ → Sets → Type 0
Mirrors s t c = (2 ^ s ≤ length t) × ((i : ℕ) → i < 2 ^ s → c i ≡ set_in (get_or t i 0))

mirrors_step : (b s a : ℕ) (t : List ℕ) (c : Sets) → Mirrors s t c → Mirrors s (filter_step b s t a) (cache_step s 1 c (touch (block_of b a)))
mirrors_step b s a t c (wide, same) = (simp length-set wide, at)
  where
    at : (i : ℕ) → i < 2 ^ s → cache_step s 1 c (touch (block_of b a)) i ≡ set_in (get_or (filter_step b s t a) i 0)
    at i l =
        cases (eqb i (place_of b s a))
        (λ e. simp (e, same i l, refer_set_in) (ap set_in (sym (step_same b s a i t wide e))))
        (λ e. simp (e, step_other b s a i t e) (same i l))

mirrors_held : (b s a : ℕ) (t : List ℕ) (c : Sets) → Mirrors s t c → is_held b s t a ≡ is_hit (cache_answer s c (touch (block_of b a)))
mirrors_held b s a t c (wide, same) =
    let e : mem (block_of b a) (c (place_of b s a)) ≡ is_held b s t a =
    ap (mem (block_of b a)) (same (place_of b s a) (set_below s (block_of b a))) ∙ mem_set_in (block_of b a) (get_or t (place_of b s a) 0) in
    cases (is_held b s t a) (λ h. simp (e ∙ h, h)) (λ h. simp (e ∙ h, h))

kept_by : (b s : ℕ) (l t : List ℕ) (c : Sets) → Mirrors s t c
    → kept_from b s t l ≡ without is_hit (answers (cache_step s 1) (cache_answer s) c (touches_of b l)) l
kept_by b s [] t c m = refl
kept_by b s (a ∷ l) t c m =
    ap₂ (λ (h : Bool) (k : List ℕ). cond h k (a ∷ k)) (mirrors_held b s a t c m)
    (kept_by b s l (filter_step b s t a) (cache_step s 1 c (touch (block_of b a))) (mirrors_step b s a t c m))

-- ---- a filter that starts empty, whatever it held

-- THE LAW of what is kept: from an empty filter on, the references that miss in the direct-mapped cache
pub kept_is : (b s : ℕ) (l t : List ℕ) → 2 ^ s ≤ length t → kept_from b s (zeroed (2 ^ s) t) l ≡ kept_of b s l
kept_is b s l t h =
    kept_by b s l (zeroed (2 ^ s) t) empty_sets
    (rw (length_zeroed (2 ^ s) t) h, λ i below. ap set_in (sym (get_d_zeroed (2 ^ s) i t below)))

-- no more are kept than came
pub length_kept : (b s : ℕ) (l : List ℕ) → length (kept_of b s l) ≤ length l
length_kept b s l = length_without is_hit (simulate s 1 (touches_of b l)) l

-- ---- the entries at the end

-- the blocks of set i, in the order in which they came
abbrev blocks_of : ℕ → ℕ → ℕ → List ℕ → List ℕ
blocks_of b s i l = keep (λ x. eqb i (set_of s x)) (map (block_of b) l)

get_d_after : (b s i : ℕ) → i < 2 ^ s → (l t : List ℕ) → 2 ^ s ≤ length t
    → get_or (filter_after b s t l) i 0 ≡ last_plus_one (get_or t i 0) (blocks_of b s i l)
get_d_after b s i below [] t h = refl
get_d_after b s i below (a ∷ l) t h =
    let ih = get_d_after b s i below l (filter_step b s t a) (simp length-set h) in
    cases (eqb i (place_of b s a))
    (λ e. simp e (ih ∙ ap (λ (v : ℕ). last_plus_one v (blocks_of b s i l)) (step_same b s a i t h e)))
    (λ e. simp e (ih ∙ ap (λ (v : ℕ). last_plus_one v (blocks_of b s i l)) (step_other b s a i t e)))

length_filter : (b s : ℕ) (l t : List ℕ) → length (filter_after b s t l) ≡ length t
length_filter b s [] t = refl
length_filter b s (a ∷ l) t = length_filter b s l (filter_step b s t a) ∙ simp length-set

drop_after : (b s : ℕ) (l t : List ℕ) → drop (2 ^ s) (filter_after b s t l) ≡ drop (2 ^ s) t
drop_after b s [] t = refl
drop_after b s (a ∷ l) t =
    drop_after b s l (filter_step b s t a) ∙ drop-set-lt (2 ^ s) t (place_of b s a) (suc (block_of b a)) (set_below s (block_of b a))

-- THE LAW of the filter: from an empty one on, entry i is the last block of set i plus one, or zero
pub filter_is : (b s : ℕ) (l t : List ℕ) → 2 ^ s ≤ length t
    → filter_after b s (zeroed (2 ^ s) t) l ≡ values_to (2 ^ s) (entry_of b s l) ++ drop (2 ^ s) t
filter_is b s l t h =
    let n = 2 ^ s in
    let empty = zeroed n t in
    let long : n ≤ length empty = rw (length_zeroed n t) h in
    let entries : (i : ℕ) → i < n → get_or (filter_after b s empty l) i 0 ≡ entry_of b s l i
    = λ i below. get_d_after b s i below l empty long ∙ ap (λ (e : ℕ). last_plus_one e (blocks_of b s i l)) (get_d_zeroed n i t below) in
    values_are n (entry_of b s l) (filter_after b s empty l) (rw (length_filter b s l empty) long) entries
    ∙ ap (values_to n (entry_of b s l) ++◌) (drop_after b s l empty ∙ drop_zeroed n t)

-- ---- the entries and the cache's sets

set_after : (b s i : ℕ) (l : List ℕ) (c : Sets) (e : ℕ) → c i ≡ set_in e
    → after (cache_step s 1) c (touches_of b l) i ≡ set_in (last_plus_one e (blocks_of b s i l))
set_after b s i [] c e h = h
set_after b s i (a ∷ l) c e h =
    cases (eqb i (place_of b s a))
    (λ q. simp q (set_after b s i l (cache_step s 1 c (touch (block_of b a))) (suc (block_of b a)) (simp (q, h, refer_set_in))))
    (λ q. simp q (set_after b s i l (cache_step s 1 c (touch (block_of b a))) e (simp q h)))

-- entry i tells set i of the direct-mapped cache after the whole list
pub entry_is : (b s i : ℕ) (l : List ℕ) → after (cache_step s 1) empty_sets (touches_of b l) i ≡ set_in (entry_of b s l i)
entry_is b s i l = set_after b s i l empty_sets 0 refl

-- so a block is in the set where the entry is its number plus one
pub entry_test : (b s i : ℕ) (l : List ℕ) (x : ℕ)
    → mem x (after (cache_step s 1) empty_sets (touches_of b l) i) ≡ eqb (entry_of b s l i) (suc x)
entry_test b s i l x = ap (mem x) (entry_is b s i l) ∙ mem_set_in x (entry_of b s l i)

-- ---- a pass from an emptied filter on

module _ {l : List ℕ} {f : Filter} {out : List ℕ} {n : ℕ} {f' : Filter} {out' : List ℕ} (p : Keeps l f out n f' out') where
  module _ (table : List ℕ) (start : f.entries.now ≡ zeroed (2 ^ f.s) table) where
    pub kept_counted : 2 ^ f.s ≤ length table → n ≡ length (kept_of f.b.0 f.s l)
    kept_counted h = p.count ∙ ap (λ (u : List ℕ). length (kept_from f.b.0 f.s u l)) start ∙ ap length (kept_is f.b.0 f.s l table h)

    -- it can be emptied again
    pub zeroed_again : zeroed (2 ^ f.s) f'.entries.now ≡ zeroed (2 ^ f.s) table
    zeroed_again =
        zeroed_same (2 ^ f.s) f'.entries.now table
        (ap length p.entries ∙ length_filter f.b.0 f.s l f.entries.now ∙ ap length start ∙ length_zeroed (2 ^ f.s) table)
        (ap (drop (2 ^ f.s)) p.entries ∙ drop_after f.b.0 f.s l f.entries.now ∙ ap (drop (2 ^ f.s)) start ∙ drop_zeroed (2 ^ f.s) table)
