-- The names are the same, or part at the highest bit in which the symbols differ.
use Rattle.name_index.proofs.Bits.{names_same, names_part}
use Rattle.model.proofs.Laws.Widths.{text_below}
use mathlib.Core.Path.{sym, ◌∙◌}
use native.Mathlib.Omega.{arith}
use Rattle.name_index.proofs.critical.Goals as goal

pub returns-then-x-y : goal.returns-then-x-y
returns-then-x-y c = names_same c.args.a.now c.args.b.now c.common-p.result c.common-p.ensures (sym c.symbol-x.ensures.0 ∙ c.if-x-y.true ∙ c.symbol-y.ensures.0)

pub overflow_mul-result : goal.overflow_mul-result
overflow_mul-result c = omega (arith, text_below, c.common-p.ensures.left, c.requires)

pub overflow_add-result : goal.overflow_add-result
overflow_add-result c = omega (arith, text_below, c.common-p.ensures.left, c.requires, c.high.ensures.small)

pub returns : goal.returns
returns c = names_part c.args.a.now c.args.b.now c.common-p.result c.common-p.ensures c.symbol-x.result c.symbol-y.result c.high.result c.symbol-x.ensures.0 c.symbol-y.ensures.0 c.high.ensures (omega (arith, text_below, c.common-p.ensures.left, c.requires))
