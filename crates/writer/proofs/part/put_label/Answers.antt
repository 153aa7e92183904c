use mathlib.Core.Path.{ap}
use native.Mathlib.Omega.{arith}
use Rattle.model.proofs.Laws.Widths.{text_below}
use Rattle.model.specs.Writing.{string_text}
use Rattle.print.specs.Laws.{put_byte, string_near}
use Rattle.writer.proofs.Pieces.{put_puts}
use Rattle.writer.proofs.Tokens.{puts_as, puts_then, string_puts}
use Rattle.writer.proofs.part.put_label.Goals as goal

pub overflow_add-result : goal.overflow_add-result
overflow_add-result c = omega (arith, text_below, string_near c.put_string-end.ensures)

pub returns-in-Name : goal.returns-in-Name
returns-in-Name c = rw c.in-Name.is (puts_then (puts_as (string_puts c.put_string-end.ensures) (ap string_text c.bytes_of.ensures)) (put_byte c.put_byte.ensures))

pub returns-in-Accumulator : goal.returns-in-Accumulator
returns-in-Accumulator c = rw c.in-Accumulator.is (put_puts (c.put_text-in-Accumulator.ensures.put (omega (arith, text_below))))
