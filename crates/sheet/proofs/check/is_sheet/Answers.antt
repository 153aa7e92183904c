use borrow.Author.Rules.{rules}
use Rattle.sheet.proofs.Checking.{other_no_sheet, object_sheet}
use Rattle.sheet.proofs.check.is_sheet.Goals as goal

pub returns-in_default : goal.returns-in_default
returns-in_default c = other_no_sheet c.node_at.ensures (search rules)

pub returns : goal.returns
returns c = object_sheet c.node_at.ensures (search rules) c.is_sheet_object.ensures
