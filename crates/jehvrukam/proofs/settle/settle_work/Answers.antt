use Rattle.jehvrukam.proofs.Settling.{work_kept, work_cleared}
use Rattle.jehvrukam.proofs.settle.settle_work.Goals as goal

pub returns-then-done : goal.returns-then-done
returns-then-done c = work_kept c.if-done.true

pub returns : goal.returns
returns c = work_cleared c.if-done.false c.clear_from.ensures c.clear_from-2.ensures
