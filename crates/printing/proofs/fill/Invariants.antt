-- `fill` meets its contract: each turn puts one byte of the form, or one number. Assumes nothing.
use Rattle.printing.proofs.PutLaws.{Filling}
use Rattle.printing.proofs.fill.Given as goal

abbrev pub invariant-loop-c : goal.invariant-loop-c
invariant-loop-c l = Filling l.form l.fn.numbers l.initial.out l.c-index l.numbers.rest.now l.end l.out
