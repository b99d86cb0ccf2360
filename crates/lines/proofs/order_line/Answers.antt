-- `order_line` meets its contract: from the last case back to the first, what the cases left would read is what is read where the case
-- before fails. Assumes nothing.
use mathlib.Core.Path.{refl, sym, ap, ◌∙◌}
use lib.ListN.{drop}
use Rattle.lines.specs.OrderLine.{starts_with, number_lines, whole_lines}
use Rattle.lines.specs.declared.OrderLine.TheVariants.{Bmin as GoodBmin, Bmax as GoodBmax, Smax as GoodSmax, Ways as GoodWays, Room as GoodRoom, Refs as GoodRefs, Kinds as GoodKinds, Begin as GoodBegin}
use Rattle.lines.specs.declared.Kinds.TheVariants.{All, Fetch, Data}
use Rattle.std.specs.Prelude.{None}
use Rattle.std.proofs.Common.{rules}
use Rattle.lines.proofs.SaidLaws.{order_says}
use Rattle.lines.specs.Results.{order_read}
use Rattle.lines.proofs.OrderLaws.{mapped, number_next, last_whole, last_number, whole_next, order_long, order_short}
use Rattle.lines.proofs.order_line.Goals as goal

pub returns-then-line-gt-LONGEST : goal.returns-then-line-gt-LONGEST
returns-then-line-gt-LONGEST c = order_says (order_long _ c.if-line-gt-LONGEST.true)

pub returns : goal.returns
unfolding starts_with
returns c =
    let line = c.args.line.now in
    order_says (order_short line c.if-line-gt-LONGEST.false ∙ sym (ap order_read c.ok_or.ensures.value ∙ last_whole line c.or_else-9.result
    ∙ whole_next line _ GoodBegin refl (drop 4 whole_lines) c.or_else-8.result c.or_else-9.ensures (λ p. search rules)
    ∙ whole_next line _ (GoodKinds Data) refl (drop 3 whole_lines) c.or_else-7.result c.or_else-8.ensures (λ p. search rules)
    ∙ whole_next line _ (GoodKinds Fetch) refl (drop 2 whole_lines) c.or_else-6.result c.or_else-7.ensures (λ p. search rules)
    ∙ whole_next line _ (GoodKinds All) refl (drop 1 whole_lines) c.or_else-5.result c.or_else-6.ensures (λ p. search rules)
    ∙ last_number line c.or_else-5.result
    ∙ number_next line _ GoodRefs (λ v. refl) (drop 6 number_lines) c.or_else-4.result c.or_else-5.ensures (λ p. search (rules, mapped GoodRefs))
    ∙ number_next line _ GoodRoom (λ v. refl) (drop 5 number_lines) c.or_else-3.result c.or_else-4.ensures (λ p. search (rules, mapped GoodRoom))
    ∙ number_next line _ GoodWays (λ v. refl) (drop 4 number_lines) c.or_else-2.result c.or_else-3.ensures (λ p. search (rules, mapped GoodWays))
    ∙ number_next line _ GoodSmax (λ v. refl) (drop 3 number_lines) c.or_else.result c.or_else-2.ensures (λ p. search (rules, mapped GoodSmax))
    ∙ number_next line _ GoodBmax (λ v. refl) (drop 2 number_lines) c.map.result c.or_else.ensures (λ p. search (rules, mapped GoodBmax))
    ∙ number_next line _ GoodBmin (λ v. refl) (drop 1 number_lines) None (mapped GoodBmin _ _ _ c.number_after.ensures c.map.ensures.cases refl) (λ p. p)))
