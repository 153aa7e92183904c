use Rattle.op_dates.proofs.Amounts.{amount_fits, amount_is}
use Rattle.op_dates.proofs.signed.Goals as goal

pub overflow_sub-result : goal.overflow_sub-result
overflow_sub-result c = amount_fits c.args.biased

pub returns : goal.returns
returns c = amount_is c.args.biased
