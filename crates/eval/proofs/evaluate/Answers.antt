use Rattle.eval.proofs.Whole.{answer_refused, answer_written}
use Rattle.eval.proofs.evaluate.Goals as goal

pub returns-in-Err : goal.returns-in-Err
returns-in-Err c = answer_refused c.value-outcome.ensures c.in-Err.fault _ c.in-Err.is c.clear_from-in-Err.ensures c.clear_from-in-Err-2.ensures

pub returns-in-Ok : goal.returns-in-Ok
returns-in-Ok c = rw c.size_of.ensures (answer_written c.value-outcome.ensures c.in-Ok.h _ c.write-w.result c.in-Ok.is c.clear_from.ensures c.write-w.ensures)
