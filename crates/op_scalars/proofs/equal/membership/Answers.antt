use mathlib.Core.Path.{sym, ◌∙◌}
use Rattle.op_scalars.proofs.Scalars.{membership_first, membership_second, membership_both}
use Rattle.op_scalars.proofs.equal.membership.Goals as goal

pub returns-then-not-is_scalar : goal.returns-then-not-is_scalar
returns-then-not-is_scalar c = membership_first _ _ _ _ (sym c.is_scalar.ensures ∙ c.if-not-is_scalar.true)

pub returns-in_default : goal.returns-in_default
returns-in_default c = membership_second _ _ _ _ (sym c.elements_of.ensures ∙ c.in_default.is)

pub returns : goal.returns
returns c =
    membership_both _ _ _ _ (sym c.is_scalar.ensures ∙ c.if-not-is_scalar.false) (sym c.elements_of.ensures ∙ c.in-Some.is)
    c.boolean.ensures c.is_among.ensures
