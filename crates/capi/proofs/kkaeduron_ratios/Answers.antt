-- `kkaeduron_ratios` meets its contract: what the library's question answers, from the state that the numbers say. Assumes nothing.
use mathlib.Core.Path.{ap, ◌∙◌}
use Rattle.taking.specs.declared.Opened.{Opened}
use Rattle.taking.specs.Ratios.{Rated, ratios_of}
use Rattle.capi.specs.Boundary.{both_of}
use Rattle.capi.proofs.kkaeduron_ratios.Goals as goal

pub returns : goal.returns
returns c =
    let a = c.args in
    let says = c.state_from-handed.ensures in
    let call = c.ratios-rated.ensures ∙ ap (λ (v : Opened). ratios_of v a.counts.now a.b a.s a.w) says.state in
    let handed = rw c.none.ensures at c.unwrap_or-miss.ensures in
    record {
      answer = c.answer_of.ensures ∙ ap (λ (q : Rated). q.answer) call;
      ratios = ap both_of handed ∙ ap (λ (q : Rated). both_of q.ratios) call;
    }
