use mathlib.Core.Path.{ap}
use Rattle.model.specs.Writing.{string_text}
use Rattle.writer.proofs.Tokens.{puts_as, string_puts}
use Rattle.writer.proofs.scalar.put_scalar.Goals as goal

pub returns-in-String : goal.returns-in-String
returns-in-String c = rw c.in-String.is (puts_as (string_puts c.put_string.ensures) (ap string_text c.bytes.ensures))
