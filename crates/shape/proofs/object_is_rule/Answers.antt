use Rattle.shape.proofs.Loop.{object_none, object_some}
use Rattle.shape.proofs.object_is_rule.Goals as goal

pub returns-in_default : goal.returns-in_default
returns-in_default c = object_none (rw c.rows_of.ensures at c.operation.ensures) c.in_default.is

pub returns : goal.returns
returns c = object_some (rw c.rows_of.ensures at c.operation.ensures) c.in-Some.is c.view_is_rule.ensures c.put_mark.ensures c.mark_of.ensures
