use mathlib.Core.Path.{refl}
use Rattle.eval.proofs.Taken.{takes_guard}
use Rattle.eval.proofs.take.after_guard.Goals as goal

pub returns : goal.returns
returns c = takes_guard c.branch-row.result _ refl c.branch-row.ensures
