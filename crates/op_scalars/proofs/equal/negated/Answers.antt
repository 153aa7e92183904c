use Rattle.op_scalars.proofs.Truths.{negated_truthy, negated_falsy, negated_neither}
use Rattle.op_scalars.proofs.equal.negated.Goals as goal

pub returns-in-Truthy : goal.returns-in-Truthy
returns-in-Truthy c = negated_truthy c.truth_of.ensures c.in-Truthy.is

pub returns-in-Falsy : goal.returns-in-Falsy
returns-in-Falsy c = negated_falsy c.truth_of.ensures c.in-Falsy.is

pub returns-in-Neither : goal.returns-in-Neither
returns-in-Neither c = negated_neither c.truth_of.ensures c.in-Neither.is
