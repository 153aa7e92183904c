use Rattle.eval.proofs.Literals.{Pushing}
use Rattle.eval.proofs.take.after_argument.Given as goal

abbrev pub invariant-loop-literal : goal.invariant-loop-literal
invariant-loop-literal l = Pushing l.rule.table.now l.rule.strings.now l.«record».table.now l.«record».strings.now l.initial.cells l.initial.t l.initial.p l.initial.value l.cells l.t l.p l.value

abbrev pub decreases-loop-literal : goal.decreases-loop-literal
decreases-loop-literal l = l.p.rest
