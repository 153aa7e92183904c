use mathlib.Core.Path.{sym}
use Rattle.type_set.specs.Laws.Fields.{union_fields}
use Rattle.type_set.proofs.set.union.Goals as goal

pub returns : goal.returns
returns c = sym (union_fields c.args.a c.args.b)
