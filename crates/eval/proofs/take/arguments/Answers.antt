use mathlib.Core.Path.{refl}
use native.Mathlib.Omega.{arith}
use Rattle.model.proofs.Laws.Widths.{cells_below}
use Rattle.eval.proofs.Arguments.{asks_next, stack_room, applies}
use Rattle.eval.proofs.take.arguments.Goals as goal

pub returns-then-p-gt0 : goal.returns-then-p-gt0
returns-then-p-gt0 c = asks_next c.one_begun.result (omega (arith, c.if-p-gt0.true)) c.one_begun.ensures

pub overflow_add-all : goal.overflow_add-all
overflow_add-all c = omega (arith, cells_below, c.requires.within)

pub apply-requires : goal.apply-requires
apply-requires c = stack_room c.args.task c.args.p _ c.requires refl

pub returns : goal.returns
returns c = applies _ (omega (arith, c.if-p-gt0.false)) refl c.apply.ensures
