use Rattle.model.specs.Limits.{max_nesting}
use Rattle.type_check.proofs.Views.{whole}
use Rattle.type_check.proofs.check.check.Goals as goal

pub returns : goal.returns
unfolding max_nesting
returns c = whole c.find.ensures
