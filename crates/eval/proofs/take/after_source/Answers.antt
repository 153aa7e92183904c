use mathlib.Core.Path.{refl}
use Rattle.eval.proofs.Taken.{takes_source}
use Rattle.eval.proofs.take.after_source.Goals as goal

pub returns : goal.returns
returns c = takes_source c.next_row-lambda.result c.next_row-row.result _ c.next_row-lambda.ensures c.next_row-row.ensures refl
