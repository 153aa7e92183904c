use Rattle.op_dates.proofs.Instants.{error_is, moves}
use Rattle.op_dates.proofs.moved.Goals as goal

pub returns-in_err-shifted : goal.returns-in_err-shifted
returns-in_err-shifted c = moves c.signed.ensures (record { sfits = c.signed.type_inv }) c.in_err-shifted.ensures (error_is c.from_residual.ensures.1)

pub returns : goal.returns
returns c = moves c.signed.ensures (record { sfits = c.signed.type_inv }) c.in_ok-shifted.ensures c.instant.ensures
