use Rattle.chars.proofs.Promise.{room_of, promise_closed, promise_then}
use Rattle.chars.proofs.any_chars.Goals as goal

pub returns-then-stands : goal.returns-then-stands
returns-then-stands c = promise_closed c.short_run-run.ensures.taken c.stands.ensures c.if-stands.true

pub from_piece-requires : goal.from_piece-requires
from_piece-requires c = (room_of c.short_run-run.ensures.taken c.requires.behind c.requires.fits, rw c.if-stands.false at c.stands.ensures)

pub returns : goal.returns
returns c = promise_then c.short_run-run.ensures.taken c.from_piece.ensures
