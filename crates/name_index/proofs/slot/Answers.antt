-- Below the ranks passed the way down is gone again.
use native.Mathlib.Omega.{arith}
use Rattle.name_index.proofs.slot.Goals as goal

pub returns-then-end-rank : goal.returns-then-end-rank
returns-then-end-rank c = c.requires.1.all c.args.rank (omega arith) (λ h. h)

pub returns : goal.returns
returns c = c.descend-again.ensures.all c.args.rank c.descend-again.ensures.least (λ h. omega arith)
