use Rattle.op_scalars.proofs.Sums.{sum_first, sum_second}
use Rattle.op_scalars.proofs.sum.sum.Goals as goal

pub returns-in_default : goal.returns-in_default
returns-in_default c = sum_second c.in_default.not-Integer-1

pub returns-in_default-2 : goal.returns-in_default-2
returns-in_default-2 c = sum_first c.in_default.not-Integer-0
