use mathlib.Core.Path.{refl}
use native.Mathlib.Omega.{arith}
use Rattle.rule.specs.declared.view.View.TheVariants as Views
use Rattle.eval.proofs.Begun.{some_deep, none_left, of_literal, of_path, of_if, of_and, of_reduce, of_apply}
use Rattle.eval.proofs.start.start.Goals as goal

pub returns-then-s-eq0 : goal.returns-then-s-eq0
returns-then-s-eq0 c = rw c.refused.ensures (none_left _ _ _ _ _ c.args.task c.if-s-eq0.true)

pub first-requires : goal.first-requires
first-requires c = some_deep (Views.If _) c.view_at.ensures c.in-If.is refl

pub first-requires-in-And : goal.first-requires-in-And
first-requires-in-And c = some_deep (Views.And _) c.view_at.ensures c.in-And.is refl

pub first-requires-in-Reduce : goal.first-requires-in-Reduce
first-requires-in-Reduce c = some_deep (Views.Reduce _) c.view_at.ensures c.in-Reduce.is refl

pub first_argument-requires : goal.first_argument-requires
first_argument-requires c = some_deep (Views.Apply _ _) c.view_at.ensures c.in-Apply.is refl

pub returns-in-Literal : goal.returns-in-Literal
returns-in-Literal c = rw c.ends.ensures (of_literal _ _ _ _ _ c.args.task (omega arith) _ refl c.view_at.ensures _ c.literal.result c.in-Literal.is c.literal.ensures)

pub returns-in-Var : goal.returns-in-Var
returns-in-Var c = rw c.ends-in-Var.ensures (of_path _ _ _ _ _ c.args.task (omega arith) _ refl c.view_at.ensures _ _ c.value_at.result c.in-Var.is c.bytes_of-path.ensures (omega (arith, c.requires.fits, c.requires.within)) c.value_at.ensures)

pub returns-in-If : goal.returns-in-If
returns-in-If c = of_if _ _ _ _ _ c.args.task (omega arith) _ refl c.view_at.ensures _ c.first.result c.first.ensures c.in-If.is

pub returns-in-And : goal.returns-in-And
returns-in-And c = of_and _ _ _ _ _ c.args.task (omega arith) _ refl c.view_at.ensures _ c.first-in-And.result c.first-in-And.ensures _ refl c.in-And.is

pub returns-in-Reduce : goal.returns-in-Reduce
returns-in-Reduce c = of_reduce _ _ _ _ _ c.args.task (omega arith) _ refl c.view_at.ensures _ c.first-in-Reduce.result c.first-in-Reduce.ensures c.in-Reduce.is

pub returns-in-Apply : goal.returns-in-Apply
returns-in-Apply c = of_apply _ _ _ _ _ c.args.task (omega arith) _ refl c.view_at.ensures c.in-Apply.op c.in-Apply.q c.first_argument.result c.in-Apply.is c.first_argument.ensures
