use mathlib.Core.Path.{◌∙◌}
use Rattle.paths.proofs.Rows.{member_found}
use Rattle.paths.proofs.member.Goals as goal

pub returns-in-None : goal.returns-in-None
returns-in-None c = member_found c.args.text.table.now c.args.text.strings.now c.args.fragment.now c.args.q (rw c.in-None.is at c.row_named.ensures)

pub returns-in-Some : goal.returns-in-Some
returns-in-Some c = c.node_at.ensures ∙ member_found c.args.text.table.now c.args.text.strings.now c.args.fragment.now c.args.q (rw c.in-Some.is at c.row_named.ensures)
