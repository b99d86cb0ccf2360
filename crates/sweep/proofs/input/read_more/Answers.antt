-- At the end of the input a line that has begun gets its LF. Assumes nothing.
use Rattle.std.proofs.Common.{rules, ◌<◌, length, arith, sym, ap, ◌∙◌, Bool, cond, [], ◌∷◌}
use lib.ListN.{length-set}
use Rattle.std.proofs.Math.Seq.{take-suc-set}
use mathlib.Core.Bool.{true≢false}
use Rattle.feeding.specs.Lines.{lf}
use Rattle.sweep.proofs.input.read_more.Goals as goal

pub returns-clause-came : goal.returns-clause-came
returns-clause-came g c =
    let chunk = c.read.new.buf in
    let some : 0 < length chunk = search rules in
    let same = length-set chunk 0 lf in
    record {
      fits = omega (arith, same, some);
      some = λ w. absurd (true≢false w);
      end = λ w. take-suc-set chunk 0 lf some ∙ sym (ap (λ (t : Bool). cond t (lf ∷ []) []) c.if-not-begun.false);
    }
