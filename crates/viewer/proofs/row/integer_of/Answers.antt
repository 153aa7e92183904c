use mathlib.Core.Path.{sym, ap, ◌∙◌}
use native.Mathlib.Omega.{arith}
use Rattle.syntax.specs.Layout.{unbiased}
use Rattle.viewer.specs.Form.{is_integer}
use Rattle.viewer.proofs.Integers.{integer_small, minus_fits, integer_is, an_integer_in, no_integer_in, too_large}
use Rattle.viewer.proofs.row.integer_of.Goals as goal
use Rattle.viewer.proofs.row.integer_of.Goals.{then-r-ge-TOO_LARGE-via-then-r-ge-TOO_LARGE, then-r-ge-TOO_LARGE-via-else-r-ge-TOO_LARGE+then-r}

pub returns-then-r-ge-TOO_LARGE : goal.returns-then-r-ge-TOO_LARGE
returns-then-r-ge-TOO_LARGE c = elim c.then-r-ge-TOO_LARGE.branch [
  | then-r-ge-TOO_LARGE-via-then-r-ge-TOO_LARGE w ↦ too_large c.args.r (omega arith)
  | then-r-ge-TOO_LARGE-via-else-r-ge-TOO_LARGE+then-r w ↦ too_large c.args.r (omega arith)
]

pub overflow_sub-result : goal.overflow_sub-result
overflow_sub-result c = minus_fits c.join-n.result (integer_small c.join-n.result (sym c.is_integer.ensures ∙ c.if-is_integer.true))

pub returns-then-is_integer : goal.returns-then-is_integer
returns-then-is_integer c = integer_is c.join-n.result (integer_small c.join-n.result (sym c.is_integer.ensures ∙ c.if-is_integer.true)) ∙ ap unbiased c.join-n.ensures ∙ an_integer_in c.args.r (ap is_integer (sym c.join-n.ensures) ∙ sym c.is_integer.ensures ∙ c.if-is_integer.true)

pub returns-else-is_integer : goal.returns-else-is_integer
returns-else-is_integer c = no_integer_in c.args.r (ap is_integer (sym c.join-n.ensures) ∙ sym c.is_integer.ensures ∙ c.if-is_integer.false)
