use Rattle.op_uvci.proofs.Answers.{below_zero, from_zero}
use Rattle.op_uvci.proofs.find.Goals as goal

pub returns-then-index-lt-BIAS : goal.returns-then-index-lt-BIAS
returns-then-index-lt-BIAS c = below_zero c.if-index-lt-BIAS.true

pub returns : goal.returns
returns c = from_zero _ c.if-index-lt-BIAS.false c.numbered_from.ensures c.nth.ensures
