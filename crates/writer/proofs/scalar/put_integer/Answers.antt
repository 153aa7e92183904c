use borrow.Author.Rules.{rules}
use native.Mathlib.Omega.{arith}
use Rattle.model.proofs.Laws.Widths.{text_below}
use Rattle.print.specs.Laws.{put_byte, put_as, put_then}
use Rattle.writer.proofs.Tokens.{integer_up, integer_down}
use Rattle.writer.proofs.scalar.put_integer.Goals as goal

pub returns-then-biased-ge-BIAS : goal.returns-then-biased-ge-BIAS
returns-then-biased-ge-BIAS c = put_as c.put_decimal.ensures (integer_up c.args.biased (omega arith))

pub overflow_add-at : goal.overflow_add-at
overflow_add-at c = let below = text_below in search rules

pub returns : goal.returns
returns c = put_as (put_then (put_byte c.put_byte.ensures) c.put_decimal-2.ensures) (integer_down c.args.biased (omega arith))
