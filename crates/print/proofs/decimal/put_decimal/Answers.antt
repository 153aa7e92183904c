use native.Mathlib.Omega.{arith}
use Rattle.model.proofs.Laws.Widths.{text_below}
use Rattle.print.proofs.Digits.{put_digits}
use Rattle.print.proofs.decimal.put_decimal.Goals as goal

pub returns : goal.returns
returns c = put_digits c.digits_of-start.ensures (c.put_text.ensures.put (omega (arith, text_below)))
