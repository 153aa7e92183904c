use borrow.Author.Rules.{rules}
use mathlib.Core.Path.{refl}
use Rattle.eval.proofs.Begun.{some_operand}
use Rattle.eval.proofs.start.first_argument.Goals as goal

pub returns : goal.returns
returns c = some_operand c.args.op c.args.q c.args.context c.args.s c.first.result _ (search rules) c.first.ensures refl
