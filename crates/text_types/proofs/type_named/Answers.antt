use mathlib.Core.Path.{refl}
use Rattle.model.specs.Sheet.{words}
use Rattle.octets.specs.Laws.Names.{answered_at}
use Rattle.text_types.proofs.type_named.Goals as goal

pub returns : goal.returns
returns c = answered_at words c.args.name.now refl refl c.position_of.ensures c.in_ok-position_of.was c.type_at.ensures
