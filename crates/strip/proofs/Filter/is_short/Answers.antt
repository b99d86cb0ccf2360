-- `strip::Filter::is_short` meets its contract: no more are kept than came, and a pass over the emptied filter counts them. Assumes nothing.
use Prim.Native.Nat.{ℕ, ◌^◌}
use mathlib.Core.Path.{◌≡◌, sym, ap, ◌∙◌}
use mathlib.Core.List.{List}
use native.Mathlib.Omega.{arith}
use borrow.Author.Rules.{rules}
use lib.Dec.{ltb}
use lib.ListN.{length}
use borrow.Author.Tests.{le-ltb}
use Rattle.lists.specs.Tables.{zeroed}
use Rattle.strip.specs.Strip.{kept_of}
use Rattle.strip.proofs.FilterLaws.{length_kept, kept_counted, zeroed_again}
use Rattle.strip.proofs.Filter.is_short.Goals as goal

-- the filter is emptied
empty : {sets : ℕ} {t' : List ℕ} (s : ℕ) (t : List ℕ) → t' ≡ zeroed sets t → sets ≡ 2 ^ s → t' ≡ zeroed (2 ^ s) t
empty s t cleared many = cleared ∙ ap (λ (n : ℕ). zeroed n t) many

-- the output is as long as the list
pub returns-then-list-len : goal.returns-then-list-len
returns-then-list-len c =
    let f = c.args.self.now in
    record {
      stays = search rules;
      short = sym (le-ltb c.args.len (length (kept_of f.b.0 f.s c.args.list.now)) (omega (arith, length_kept f.b.0 f.s c.args.list.now)));
      entries = empty f.s _ c.clear.ensures c.sets_of-sets.ensures;
    }

-- it is shorter: those that are kept were counted
pub returns : goal.returns
returns c =
    let f = c.args.self.now in
    let pass = c.keep-kept.ensures in
    let emptied = empty f.s _ c.clear.ensures c.sets_of-sets.ensures in
    record {
      stays = search rules;
      short = ap (ltb c.args.len) (kept_counted pass f.entries.now emptied f.wide);
      entries = empty f.s _ c.clear-2.ensures c.sets_of-sets.ensures ∙ zeroed_again pass f.entries.now emptied;
    }
