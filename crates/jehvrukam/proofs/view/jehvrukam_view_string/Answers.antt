use borrow.Author.Rules.{rules}
use mathlib.Core.Path.{refl}
use Rattle.viewer.specs.Answer.{string_of}
use Rattle.jehvrukam.proofs.Viewing.{tells_none, tells_some, a_string}
use Rattle.jehvrukam.proofs.view.jehvrukam_view_string.Goals as goal

pub returns-in_default : goal.returns-in_default
returns-in_default c = tells_none string_of c.row_at.ensures c.in_default.is refl

pub returns : goal.returns
returns c =
    tells_some string_of c.row_at.ensures c.in-Some.is _ (a_string c.in-Some.r (search rules))
