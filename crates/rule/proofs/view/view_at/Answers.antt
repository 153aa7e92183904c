use Rattle.std.proofs.Common.{refl, sym, ◌∙◌}
use Rattle.rule.proofs.Views.{node_view, object_view_lem}
use Rattle.rule.proofs.view.view_at.Goals as goal

pub returns-in-Null : goal.returns-in-Null
returns-in-Null c = node_view c.args.text.marked _ (sym (rw c.rows_of.ensures at c.node_at-node.ensures) ∙ c.in-Null.is) refl

pub returns-in-False : goal.returns-in-False
returns-in-False c = node_view c.args.text.marked _ (sym (rw c.rows_of.ensures at c.node_at-node.ensures) ∙ c.in-False.is) refl

pub returns-in-True : goal.returns-in-True
returns-in-True c = node_view c.args.text.marked _ (sym (rw c.rows_of.ensures at c.node_at-node.ensures) ∙ c.in-True.is) refl

pub returns-in-Integer : goal.returns-in-Integer
returns-in-Integer c = node_view c.args.text.marked _ (sym (rw c.rows_of.ensures at c.node_at-node.ensures) ∙ c.in-Integer.is) refl

pub returns-in-String : goal.returns-in-String
returns-in-String c = node_view c.args.text.marked _ (sym (rw c.rows_of.ensures at c.node_at-node.ensures) ∙ c.in-String.is) refl

pub returns-in-Array : goal.returns-in-Array
returns-in-Array c = node_view c.args.text.marked _ (sym (rw c.rows_of.ensures at c.node_at-node.ensures) ∙ c.in-Array.is) c.array_view.ensures

pub returns-in-Object : goal.returns-in-Object
returns-in-Object c = object_view_lem c.args.text.marked _ (sym (rw c.rows_of.ensures at c.node_at-node.ensures) ∙ c.in-Object.is) c.object_view.ensures
