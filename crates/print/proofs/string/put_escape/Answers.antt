use Rattle.print.proofs.Escapes.{put_short, put_long, put_six}
use Rattle.print.proofs.string.put_escape.Goals as goal

pub returns-in-Some : goal.returns-in-Some
returns-in-Some c = put_short c.args.b c.in-Some.c (rw c.in-Some.is at c.letter.ensures) c.put_byte.ensures c.put_byte-in-Some.ensures

pub returns : goal.returns
returns c = put_long c.args.b c.requires.1 (rw c.in_default.is at c.letter.ensures) c.long_escape.ensures (c.put_text.ensures.put c.requires.0)

pub returns-then-at-output : goal.returns-then-at-output
returns-then-at-output c = put_six c.args.b c.requires.1 (rw c.in_default.is at c.letter.ensures) c.hex.ensures c.hex-then-at-output.ensures
