use mathlib.Core.Path.{sym, ◌∙◌}
use native.Mathlib.Omega.{arith}
use Rattle.op_scalars.proofs.Scalars.{found, passed, no_parts}
use Rattle.op_scalars.proofs.equal.is_among.Goals as goal

pub returns-then-same_scalar : goal.returns-then-same_scalar
returns-then-same_scalar c =
    sym (found _ _ _ _ c.args.x c.loop-rest.rest c.loop-rest-test.true c.head-part.ensures c.same_scalar.ensures c.if-same_scalar.true)
    ∙ c.loop-rest.invariant

pub loop-rest-preserved : goal.loop-rest-preserved
loop-rest-preserved c =
    passed _ _ _ _ c.args.x c.loop-rest.rest c.loop-rest-test.true c.head-part.ensures c.same_scalar.ensures
    c.if-same_scalar.false c.tail-rest.ensures
    ∙ c.loop-rest.invariant

pub returns : goal.returns
returns c =
    sym (no_parts _ _ _ _ c.args.x c.loop-rest.rest (omega (arith, c.loop-rest-test.false))) ∙ c.loop-rest.invariant
