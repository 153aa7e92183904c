use Rattle.chars.proofs.Promise.{promise_closed, promise_end, promise_then}
use Rattle.chars.proofs.chars.Goals as goal

pub returns-then-text-at : goal.returns-then-text-at
returns-then-text-at c = promise_end c.if-text-at.true

pub returns-then-stands : goal.returns-then-stands
returns-then-stands c = promise_closed c.plain_start-first.ensures.taken c.stands.ensures c.if-stands.true

pub returns : goal.returns
returns c = promise_then c.plain_start-first.ensures.taken c.any_chars-2.ensures
