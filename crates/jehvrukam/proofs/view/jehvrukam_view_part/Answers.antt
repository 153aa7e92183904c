use mathlib.Core.Path.{refl}
use Rattle.jehvrukam.proofs.Viewing.{tells_none, tells_some}
use Rattle.jehvrukam.proofs.view.jehvrukam_view_part.Goals as goal

pub returns-in_default : goal.returns-in_default
returns-in_default c = tells_none (λ p. p) c.part_at.ensures c.in_default.is refl

pub returns : goal.returns
returns c = tells_some (λ p. p) c.part_at.ensures c.in-Some.is _ refl
