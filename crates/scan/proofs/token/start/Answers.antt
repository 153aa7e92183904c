use Rattle.scan.proofs.Decisions.{start_at_lem}
use Rattle.scan.proofs.token.start.Goals as goal

pub returns : goal.returns
returns c = start_at_lem c.start_of.ensures c.if-text-at.false
