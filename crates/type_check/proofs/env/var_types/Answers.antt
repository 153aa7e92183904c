use Rattle.type_check.proofs.Paths.{var_outside, var_in_lambda}
use Rattle.type_check.proofs.env.var_types.Goals as goal

pub returns-in-Outside : goal.returns-in-Outside
returns-in-Outside c = var_outside c.in-Outside.is c.types_for.ensures

pub returns-in-Lambda : goal.returns-in-Lambda
returns-in-Lambda c = var_in_lambda c.in-Lambda.is c.lambda_types.ensures
