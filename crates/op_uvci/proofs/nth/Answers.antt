use mathlib.Core.Path.{refl}
use native.Mathlib.Omega.{arith}
use Rattle.op_uvci.proofs.Fragments.{ends_inside, seek_on, seek_past}
use Rattle.op_uvci.proofs.nth.Goals as goal

pub loop-start-init : goal.loop-start-init
loop-start-init c = record { is = refl }

pub overflow_sub-result : goal.overflow_sub-result
overflow_sub-result c = omega (arith, c.end_of-end.ensures.is)

pub overflow_add-start : goal.overflow_add-start
overflow_add-start c = omega (arith, ends_inside c.args.text.now c.loop-start.start _ (omega arith) c.end_of-end.ensures)

pub loop-start-smaller : goal.loop-start-smaller
loop-start-smaller c = omega (arith, c.end_of-end.ensures.is)

pub loop-start-preserved : goal.loop-start-preserved
loop-start-preserved c = seek_on c.loop-start.invariant c.loop-start-test.true c.end_of-end.ensures (λ e. omega (arith, e))

pub returns : goal.returns
returns c = seek_past c.loop-start.invariant c.loop-start-test.false refl
