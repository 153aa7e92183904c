use Rattle.op_dates.proofs.Instants.{born, born_refused}
use Rattle.op_dates.proofs.date_of_birth.Goals as goal

pub returns-in_err-read_day : goal.returns-in_err-read_day
returns-in_err-read_day c = born_refused c.in-String.is c.bytes.ensures c.in_err-read_day.field-0.0 c.in_err-read_day.ensures c.from_residual.ensures.1

pub returns : goal.returns
returns c = born c.in-String.is c.bytes.ensures c.in_ok-read_day.ensures c.instant.ensures
