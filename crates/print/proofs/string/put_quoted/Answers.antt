use native.Mathlib.Omega.{arith}
use Rattle.model.proofs.Laws.Widths.{text_below}
use Rattle.print.proofs.Quoted.{quoting_none, quoting_more, quoting_near, quoted, quoted_size}
use Rattle.print.proofs.string.put_quoted.Goals as goal

pub loop-here-init : goal.loop-here-init
loop-here-init c = quoting_none _ _ _

pub put_some-here-requires : goal.put_some-here-requires
put_some-here-requires c = record { inside = c.loop-here-test.true; near = omega (arith, text_below, quoting_near c.loop-here.invariant) }

pub loop-here-smaller : goal.loop-here-smaller
loop-here-smaller c = omega (arith, c.put_some-here.ensures.on, c.put_some-here.ensures.inside)

pub loop-here-preserved : goal.loop-here-preserved
loop-here-preserved c = quoting_more c.loop-here.invariant c.put_some-here.ensures

pub overflow_add-result : goal.overflow_add-result
overflow_add-result c = record { fits = omega (arith, text_below, quoting_near c.loop-here.invariant) }

pub returns : goal.returns
returns c = quoted c.put_byte.ensures c.loop-here.invariant c.loop-here-test.false c.put_byte-2.ensures

pub shape_of-output : goal.shape_of-output
shape_of-output c = quoted_size c.args.output.now c.args.at _ _ _ c.put_byte.ensures c.loop-here.invariant c.put_byte-2.ensures
