use Rattle.operations.proofs.Block.{copy_begins, copy_next}
use Rattle.operations.proofs.copy.Goals as goal

pub loop-i-init : goal.loop-i-init
loop-i-init c = copy_begins _ _ _

pub loop-i-preserved : goal.loop-i-preserved
loop-i-preserved c = copy_next _ _ _ _ c.loop-i.i c.operand-h.result c.requires.fits c.loop-i-test.true c.loop-i.invariant c.operand-h.ensures c.put.ensures
