use mathlib.Core.Path.{◌∙◌}
use Rattle.shape.proofs.Loop.{going_start, going_stop, going_on, going_done, row_length}
use Rattle.shape.proofs.is_rule.Goals as goal

pub loop-row-init : goal.loop-row-init
loop-row-init c = going_start _ _ _

pub shape_of-rule_table-then-not-row_is_rule : goal.shape_of-rule_table-then-not-row_is_rule
shape_of-rule_table-then-not-row_is_rule c = row_length c.row_is_rule.ensures ∙ c.loop-row.invariant.size

pub returns-then-not-row_is_rule : goal.returns-then-not-row_is_rule
returns-then-not-row_is_rule c = going_stop c.loop-row.invariant c.loop-row-test.true c.row_is_rule.ensures c.if-not-row_is_rule.true (rw c.rows_of.ensures at c.next_row-end.ensures)

pub loop-row-preserved : goal.loop-row-preserved
loop-row-preserved c = going_on c.loop-row.invariant c.loop-row-test.true c.row_is_rule.ensures c.if-not-row_is_rule.false

pub shape_of-rule_table : goal.shape_of-rule_table
shape_of-rule_table c = c.loop-row.invariant.size

pub returns : goal.returns
returns c = going_done c.loop-row.invariant c.loop-row-test.false (rw c.rows_of.ensures at c.next_row-end.ensures)
