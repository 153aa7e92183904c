use mathlib.Core.Path.{refl, sym, ◌∙◌}
use Rattle.shape.proofs.Loop.{row_plain, row_other, row_object}
use Rattle.shape.proofs.row_is_rule.Goals as goal

pub returns-in-Null : goal.returns-in-Null
returns-in-Null c = row_plain _ (sym (rw c.rows_of.ensures at c.node_at-node.ensures) ∙ c.in-Null.is) refl refl

pub returns-in_default : goal.returns-in_default
returns-in_default c = row_other _ (sym (rw c.rows_of.ensures at c.node_at-node.ensures)) c.in_default.not-Null c.in_default.not-Object

pub returns-in-Object : goal.returns-in-Object
returns-in-Object c = row_object (sym (rw c.rows_of.ensures at c.node_at-node.ensures) ∙ c.in-Object.is) c.object_is_rule.ensures
