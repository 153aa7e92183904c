use Rattle.eval.proofs.Taken.{conjunct_falsy, conjunct_neither}
use Rattle.eval.proofs.take.after_conjunct.Goals as goal

pub returns-in-Falsy : goal.returns-in-Falsy
returns-in-Falsy c = rw c.ends.ensures (conjunct_falsy c.truth_of.result c.truth_of.ensures c.in-Falsy.is)

pub returns-in-Neither : goal.returns-in-Neither
returns-in-Neither c = rw c.refused.ensures (conjunct_neither c.truth_of.result c.truth_of.ensures c.in-Neither.is)
