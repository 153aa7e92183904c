use mathlib.Core.Path.{refl}
use native.Mathlib.Omega.{arith}
use Rattle.model.proofs.Laws.Widths.{cells_below}
use Rattle.eval.specs.Inner.{task}
use Rattle.eval.proofs.Arguments.{one_done, pushed}
use Rattle.eval.proofs.Literals.{literal_found, pushing_begins, pushing_room, pushing_ends, fewer_rest, pushing_on}
use Rattle.eval.proofs.take.after_argument.Goals as goal

pub loop-literal-init : goal.loop-literal-init
loop-literal-init c = pushing_begins c.requires

pub overflow_sub-bottom : goal.overflow_sub-bottom
overflow_sub-bottom c = omega (arith, c.loop-literal.invariant.room.fits)

pub overflow_add-more : goal.overflow_add-more
overflow_add-more c = omega (arith, cells_below, c.loop-literal.invariant.room.fits, c.loop-literal.invariant.room.within)

pub arguments-requires : goal.arguments-requires
arguments-requires c = pushing_room c.loop-literal.invariant c.next_row.result _ _ _ c.put.ensures c.next_row.ensures refl refl refl

pub shape_of-cells-in_default : goal.shape_of-cells-in_default
shape_of-cells-in_default c = (pushing_ends c.loop-literal.invariant c.next_row.result _ _ _ c.put.ensures c.next_row.ensures refl refl refl (c.arguments.ensures.argues _)).same.size

pub returns-in_default : goal.returns-in_default
returns-in_default c = pushing_ends c.loop-literal.invariant c.next_row.result _ _ _ c.put.ensures c.next_row.ensures refl refl refl (c.arguments.ensures.argues _)

pub one_step-t-requires : goal.one_step-t-requires
one_step-t-requires c = (literal_found _ (task c.next_row.result c.loop-literal.t.context (pushed c.loop-literal.t)) (one_done c.loop-literal.p) c.in-Some.literal c.literal_next.ensures c.in-Some.is).some_left

pub one_begun-p-requires : goal.one_begun-p-requires
one_begun-p-requires c = (literal_found _ (task c.next_row.result c.loop-literal.t.context (pushed c.loop-literal.t)) (one_done c.loop-literal.p) c.in-Some.literal c.literal_next.ensures c.in-Some.is).some_rest

pub loop-literal-smaller : goal.loop-literal-smaller
loop-literal-smaller c = fewer_rest c.loop-literal.invariant c.next_row.result _ _ _ c.put.ensures c.next_row.ensures refl refl refl _ (literal_found _ (task c.next_row.result c.loop-literal.t.context (pushed c.loop-literal.t)) (one_done c.loop-literal.p) c.in-Some.literal c.literal_next.ensures c.in-Some.is) c.one_begun-p.result c.one_begun-p.ensures

pub loop-literal-preserved : goal.loop-literal-preserved
loop-literal-preserved c = pushing_on c.loop-literal.invariant c.next_row.result _ _ _ c.put.ensures c.next_row.ensures refl refl refl _ (literal_found _ (task c.next_row.result c.loop-literal.t.context (pushed c.loop-literal.t)) (one_done c.loop-literal.p) c.in-Some.literal c.literal_next.ensures c.in-Some.is) c.one_begun-p.result c.one_begun-p.ensures c.one_step-t.result c.one_step-t.ensures
