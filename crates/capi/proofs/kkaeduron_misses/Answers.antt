-- `kkaeduron_misses` meets its contract: what the library's question answers, from the state that the numbers say. Assumes nothing.
use mathlib.Core.Path.{ap, ◌∙◌}
use Rattle.taking.specs.declared.Opened.{Opened}
use Rattle.taking.specs.Questions.{Counted, misses_of}
use Rattle.capi.proofs.kkaeduron_misses.Goals as goal

pub returns : goal.returns
returns c =
    let a = c.args in
    let says = c.state_from-handed.ensures in
    let call = c.misses-counted.ensures ∙ ap (λ (v : Opened). misses_of v a.counts.now a.b a.s a.w) says.state in
    record { answer = c.answer_of.ensures ∙ ap (λ (q : Counted). q.answer) call; misses = c.unwrap_or.ensures ∙ ap (λ (q : Counted). q.misses) call }
