use mathlib.Core.Path.{ap₂, ◌∙◌}
use Rattle.model.specs.Bytes.{same_bytes}
use Rattle.op_scalars.proofs.Scalars.{is_same_integer}
use Rattle.op_scalars.proofs.equal.same_scalar.Goals as goal

pub returns-in-Integer-Integer : goal.returns-in-Integer-Integer
returns-in-Integer-Integer c = rw (c.in-Integer-Integer.is-0, c.in-Integer-Integer.is-1) (is_same_integer c.args.rule_strings.now c.args.record_strings.now _ _)

pub returns-in-String-String : goal.returns-in-String-String
returns-in-String-String c =
    rw (c.in-String-String.is-0, c.in-String-String.is-1) (c.eq.ensures ∙ ap₂ same_bytes c.bytes.ensures c.bytes-in-String-String.ensures)
