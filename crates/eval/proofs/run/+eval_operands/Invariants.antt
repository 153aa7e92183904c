-- An operand's rule is nested in its operation's: the measure is what is left of the nesting, twice, and the order of the two functions. The loop ends
-- as each turn begins a step.
use Prim.Native.Nat.{◌+◌, ◌*◌}
use Rattle.eval.specs.declared.task.Next.TheVariants.{Asks}
use Rattle.eval.specs.Inner.{next_left}
use Rattle.eval.proofs.Steps.{OperandsInv}
use Rattle.eval.proofs.run.+eval_operands.Given as goal

abbrev pub decreases-eval : goal.decreases-eval
decreases-eval l = 2 * l.task.state.deep + 1

abbrev pub decreases-operands : goal.decreases-operands
decreases-operands l = 2 * l.task.state.deep + 2

abbrev pub invariant-operands-loop-end : goal.invariant-operands-loop-end
invariant-operands-loop-end l = OperandsInv l.rule.table.now l.rule.strings.now l.«record».table.now l.«record».strings.now l.initial.cells (Asks l.initial.task l.initial.frame) l.cells (Asks l.task l.frame)

abbrev pub decreases-operands-loop-end : goal.decreases-operands-loop-end
decreases-operands-loop-end l = next_left (Asks l.task l.frame)
