use mathlib.Core.Path.{sym, ◌∙◌}
use Rattle.op_scalars.proofs.Scalars.{equality_first, equality_second, equality_both}
use Rattle.op_scalars.proofs.equal.equality.Goals as goal
use Rattle.op_scalars.proofs.equal.equality.Goals.{then-not-is_scalar-via-then-not-is_scalar, then-not-is_scalar-via-else-not-is_scalar+then-not-is_scalar-2}

pub returns-then-not-is_scalar : goal.returns-then-not-is_scalar
returns-then-not-is_scalar c =
    elim c.then-not-is_scalar.branch [
      | then-not-is_scalar-via-then-not-is_scalar w ↦ equality_first _ _ (sym c.is_scalar.ensures ∙ w.if-not-is_scalar.true)
      | then-not-is_scalar-via-else-not-is_scalar+then-not-is_scalar-2 w ↦ equality_second _ _ (sym w.is_scalar-else-not-is_scalar.ensures ∙ w.if-not-is_scalar-2.true)
    ]

pub returns : goal.returns
returns c =
    equality_both _ _ (sym c.is_scalar.ensures ∙ c.if-not-is_scalar.false) (sym c.is_scalar-else-not-is_scalar.ensures ∙ c.if-not-is_scalar-2.false)
    c.boolean.ensures c.same_scalar.ensures
