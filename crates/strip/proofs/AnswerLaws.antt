-- A strip that is done: the pass over the emptied filter leaves what the contract says, of the answer and of all that is handed back.
-- The refusals need no law. Assumes nothing.
use Prim.Native.Nat.{ℕ, ◌^◌, ◌≤◌}
use mathlib.Core.Path.{◌≡◌, sym, ap, ◌∙◌}
use mathlib.Core.Bool.{true, false}
use mathlib.Core.List.{List, ◌++◌}
use native.Mathlib.Omega.{arith}
use Rattle.std.specs.Prelude.{Ok}
use Rattle.std.specs.List.{refill}
use Rattle.std.proofs.lemmas.Grind.{common_steps}
use lib.ListN.{length, drop}
use lib.Seq.{take-length}
use borrow.Author.Tests.{le-ltb, ltb-false}
use Rattle.lists.specs.Tables.{values_to}
use Rattle.lists.specs.Tests.{all_le}
use Rattle.strip.specs.declared.Filter.{Filter}
use Rattle.strip.specs.Filter.{kept_from, filter_after, Keeps, Empties}
use Rattle.strip.specs.Strip.{stripped, kept_of, entry_of, strip_limits, Strips}
use Rattle.strip.proofs.FilterLaws.{kept_is, filter_is}

-- a list that has room stands whole at the front
fronted : (out ks : List ℕ) → length ks ≤ length out → refill (length out) out ks ≡ ks ++ drop (length ks) out
fronted out ks h = grind (arith, common_steps, take-length)

-- e is the emptied filter, and f' that after the pass
pub all_done : {l : List ℕ} {f e : Filter} {out : List ℕ} {n : ℕ} {f' : Filter} {out' : List ℕ} → all_le (strip_limits f.b.0 f.s) ≡ true
    → Empties l (length out) f false e → Keeps l e out n f' out' → Strips l f.b.0 f.s f.entries.now out (stripped (Ok n)) f'.entries.now out'
all_done {l} {f} {e} {out} limits empties k =
    let b = f.b.0 in
    let s = f.s in
    let table = f.entries.now in
    let wide = le-ltb (length table) (2 ^ s) f.wide in
    let room = sym empties.short in
    let kept : kept_from e.b.0 e.s e.entries.now l ≡ kept_of b s l =
    rw (empties.stays.blocks, empties.stays.sets, empties.entries) (kept_is b s l table f.wide) in
    let after : filter_after e.b.0 e.s e.entries.now l ≡ values_to (2 ^ s) (entry_of b s l) ++ drop (2 ^ s) table =
    rw (empties.stays.blocks, empties.stays.sets, empties.entries) (filter_is b s l table f.wide) in
    record {
      answer = simp (limits, wide, room);
      kept = simp (limits, wide, room) (k.count ∙ ap length kept);
      filter = simp (limits, wide, room) (k.entries ∙ after);
      output =
          simp (limits, wide, room)
          (k.output ∙ ap (refill (length out) out) kept ∙ fronted out (kept_of b s l) (ltb-false (length out) (length (kept_of b s l)) room));
    }
