use Rattle.paths.proofs.Rows.{no_part}
use Rattle.paths.proofs.part.Goals as goal

pub returns-in-Array : goal.returns-in-Array
returns-in-Array c = rw c.in-Array.is c.item_named.ensures

pub returns-in-Object : goal.returns-in-Object
returns-in-Object c = rw c.in-Object.is c.member.ensures

pub returns-in_default : goal.returns-in_default
returns-in_default c = no_part c.args.text.table.now c.args.text.strings.now c.args.fragment.now c.args.n c.in_default.not-Array c.in_default.not-Object
