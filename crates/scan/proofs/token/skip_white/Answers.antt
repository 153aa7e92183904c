use Rattle.scan.proofs.Words.{skip_start, skip_all}
use Rattle.scan.proofs.token.skip_white.Goals as goal

pub loop-i-init : goal.loop-i-init
loop-i-init c = skip_start _ _

pub returns : goal.returns
returns c = rw c.max.ensures (skip_all c.loop-i.invariant c.loop-i-test.false)
