use Rattle.print.proofs.Quoted.{put_instant_bytes}
use Rattle.print.proofs.instant.put_instant.Goals as goal

pub returns : goal.returns
returns c = put_instant_bytes c.args.t.ms c.from-text.ensures c.put_byte.ensures c.put_bytes.ensures c.put_byte-2.ensures
