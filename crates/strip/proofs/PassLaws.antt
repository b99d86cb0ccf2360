-- A reference, and a turn of a pass: what holds of the addresses passed so far holds with one more. Assumes nothing.
use Prim.Native.Nat.{ℕ, ◌+◌, ◌≤◌, ◌<◌}
use mathlib.Core.Path.{◌≡◌, refl, sym, ap, ap₂, ◌∙◌}
use mathlib.Core.Bool.{Bool, true, false, cond}
use mathlib.Core.List.{List, [], ◌∷◌, ◌++◌, append-nil}
use native.Mathlib.Nat.{lt_of_lt_of_le}
use native.Mathlib.Numerals.{add-one}
use native.Mathlib.Omega.{arith}
use Rattle.std.specs.List.{refill, length_refill}
use Rattle.std.proofs.lemmas.List.{length-append}
use lib.ListN.{length, take, get_or, set}
use lib.Pow.{pow_mono, shr_lt}
use lib.Seq.{take-suc}
use Rattle.lists.proofs.PassLaws.{front_more, front_full}
use Rattle.lists.proofs.RunLaws.{after_snoc, left_snoc}
use Rattle.cache.specs.Cache.{block_of}
use Rattle.strip.specs.declared.Filter.{Filter}
use Rattle.strip.specs.Filter.{is_held, filter_step, kept_from, filter_after, Refers, Keeps}

-- an entry fits 32 bits
pub entry_fits : (b a : ℕ) → 1 ≤ b → a < 4294967296 → block_of b a + 1 < 4294967296
unfolding block_of
entry_fits b a h l = omega (arith, shr_lt {n = a} 31 b (lt_of_lt_of_le l (pow_mono {i = 32} {j = 31 + b} (omega arith))))

-- ---- the turn at address i of the list

module _ (l : List ℕ) (i : ℕ) {f₀ : Filter} {out₀ : List ℕ} {n : ℕ} {f : Filter} {out : List ℕ} (p : Keeps (take i l) f₀ out₀ n f out)
    (h : i < length l) {r : Bool} {f' : Filter} (turn : Refers (get_or l i 0) f r f') where
  next : take (i + 1) l ≡ take i l ++ (get_or l i 0 ∷ [])
  next = rw (add-one i) (take-suc l i 0 h)

  held : r ≡ is_held f₀.b.0 f₀.s (filter_after f₀.b.0 f₀.s f₀.entries.now (take i l)) (get_or l i 0)
  held = rw (p.stays.blocks, p.stays.sets, p.entries) at turn.held

  entered : f'.entries.now ≡ filter_step f₀.b.0 f₀.s (filter_after f₀.b.0 f₀.s f₀.entries.now (take i l)) (get_or l i 0)
  entered = rw (p.stays.blocks, p.stays.sets, p.entries) at turn.entries

  -- ks is what is kept of this address: itself or nothing
  turned : {ks : List ℕ} {n' : ℕ} {out' : List ℕ} → cond r [] (get_or l i 0 ∷ []) ≡ ks → n' ≡ n + length ks
      → out' ≡ refill (length out₀) out₀ (kept_from f₀.b.0 f₀.s f₀.entries.now (take i l) ++ ks) → Keeps (take (i + 1) l) f₀ out₀ n' f' out'
  turned {ks} e count output =
      let kept = kept_from f₀.b.0 f₀.s f₀.entries.now (take i l) in
      let more : kept_from f₀.b.0 f₀.s f₀.entries.now (take (i + 1) l) ≡ kept ++ ks =
      rw next (left_snoc (filter_step f₀.b.0 f₀.s) (is_held f₀.b.0 f₀.s) f₀.entries.now (take i l) (get_or l i 0) ∙ rw (← held) (ap (kept ++◌) e)) in
      record {
        stays = record {
          entries = turn.stays.entries ∙ p.stays.entries;
          blocks = turn.stays.blocks ∙ p.stays.blocks;
          sets = turn.stays.sets ∙ p.stays.sets;
        };
        count = omega (arith, p.count, ap length more, length-append kept ks);
        entries = rw next (entered ∙ sym (after_snoc (filter_step f₀.b.0 f₀.s) f₀.entries.now (take i l) (get_or l i 0)));
        output = output ∙ ap (refill (length out₀) out₀) (sym more);
      }

  long : length out ≡ length out₀
  long = ap length p.output ∙ sym (length_refill (length out₀) out₀ (kept_from f₀.b.0 f₀.s f₀.entries.now (take i l)) refl)

  pub pass_dropped : r ≡ true → Keeps (take (i + 1) l) f₀ out₀ n f' out
  pass_dropped e = turned {ks = []} (simp e) (omega arith) (simp append-nil p.output)

  pub pass_put : r ≡ false → n < length out → Keeps (take (i + 1) l) f₀ out₀ (n + 1) f' (set out n (get_or l i 0))
  pass_put e room =
      turned {ks = get_or l i 0 ∷ []} (simp e) refl
      (ap₂ (λ (m : List ℕ) (j : ℕ). set m j (get_or l i 0)) p.output p.count
      ∙ front_more out₀ (kept_from f₀.b.0 f₀.s f₀.entries.now (take i l)) (get_or l i 0) (omega (arith, long, p.count)))

  pub pass_full : r ≡ false → length out ≤ n → Keeps (take (i + 1) l) f₀ out₀ (n + 1) f' out
  pass_full e full =
      turned {ks = get_or l i 0 ∷ []} (simp e) refl
      (p.output ∙ front_full out₀ (kept_from f₀.b.0 f₀.s f₀.entries.now (take i l)) (get_or l i 0) (omega (arith, long, p.count)))
