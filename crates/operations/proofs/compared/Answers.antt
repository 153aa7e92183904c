use Rattle.operations.proofs.Operations.{compares_two, compares_three}
use Rattle.operations.proofs.compared.Goals as goal

pub returns-then-count-eq2 : goal.returns-then-count-eq2
returns-then-count-eq2 c = compares_two c.operand-x.ensures c.operand-y.ensures c.if-count-eq2.true c.compare.ensures

pub returns-else-count-eq2 : goal.returns-else-count-eq2
returns-else-count-eq2 c = compares_three c.operand-x.ensures c.operand-y.ensures c.operand.ensures c.if-count-eq2.false c.compare_three.ensures
