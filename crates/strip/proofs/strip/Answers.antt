-- `strip::strip` meets its contract: the limits bound the shift, the filter is one, and where nothing is refused the pass says all.
-- Assumes nothing.
use borrow.Author.Rules.{rules}
use mathlib.Core.Path.{sym, ◌∙◌}
use native.Mathlib.Omega.{arith}
use Rattle.lists.proofs.TestLaws.{all_facts}
use Rattle.strip.specs.Strip.{strip_limits}
use Rattle.strip.proofs.AnswerLaws.{all_done}
use Rattle.strip.proofs.strip.Goals as goal

pub sets_of-requires : goal.sets_of-requires
sets_of-requires c = let within = all_facts (strip_limits c.args.b.0 c.args.s) (sym c.if-not-is_within.ensures) in omega arith

pub invariant_of-filter : goal.invariant_of-filter
invariant_of-filter c =
    let within = all_facts (strip_limits c.args.b.0 c.args.s) (sym c.if-not-is_within.ensures) in
    record { small = omega arith; few = omega arith; wide = search rules }

pub returns : goal.returns
returns c =
    let done = all_done (sym c.if-not-is_within.ensures) c.if-is_short.ensures c.keep.ensures in
    record { answer = done.answer; kept = done.kept; filter = ◌∙◌ {b = c.keep.new.self.entries.now} (search rules) done.filter; output = done.output }
