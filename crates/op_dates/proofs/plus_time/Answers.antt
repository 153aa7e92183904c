use Rattle.op_dates.proofs.Instants.{shifts, shifts_refused}
use Rattle.op_dates.proofs.plus_time.Goals as goal

pub returns-in_err-t : goal.returns-in_err-t
returns-in_err-t c = shifts_refused c.in-String.is c.bytes.ensures c.in_err-t.field-0.0 c.in_err-t.ensures c.from_residual.ensures.1

pub returns : goal.returns
returns c = shifts c.in-String.is c.bytes.ensures c.in_ok-t.ensures c.moved.ensures
