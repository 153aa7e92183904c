use mathlib.Core.Path.{refl}
use Rattle.viewer.specs.Answer.{name_of}
use Rattle.jehvrukam.proofs.Viewing.{tells_none, tells_some}
use Rattle.jehvrukam.proofs.view.jehvrukam_view_name.Goals as goal

pub returns-in_default : goal.returns-in_default
returns-in_default c = tells_none name_of c.row_at.ensures c.in_default.is refl

pub returns : goal.returns
returns c = tells_some name_of c.row_at.ensures c.in-Some.is _ refl
