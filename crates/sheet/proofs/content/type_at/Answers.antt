use Rattle.sheet.proofs.Contents.{string_names, names_none}
use Rattle.sheet.proofs.content.type_at.Goals as goal

pub returns-in_default : goal.returns-in_default
returns-in_default c = names_none c.args.n c.in_default.not-String

pub returns : goal.returns
returns c = rw c.in-String.is (string_names (rw c.bytes_of.ensures at c.type_named.ensures))
