use mathlib.Core.Path.{◌≡◌}
use Rattle.std.specs.Prelude.{Err}
use Rattle.std.proofs.Common.{rules}
use Rattle.chars.proofs.Pieces.{taken_piece}
use Rattle.chars.proofs.Promise.{room_of, promise_closed, promise_stopped}
use Rattle.chars.proofs.Steps.{taken_none, taken_then}
use Rattle.chars.proofs.from_piece.Goals as goal

pub loop-next-init : goal.loop-next-init
loop-next-init c = (taken_none _ _ _ _ c.requires.0.inside, c.requires.1)

pub piece-requires : goal.piece-requires
piece-requires c = (room_of c.loop-next.invariant.0 c.requires.0.behind c.requires.0.fits, c.loop-next.invariant.1)

pub returns-in_err-next : goal.returns-in_err-next
returns-in_err-next c =
    let e : c.from_residual.result ≡ Err c.in_err-next.field-0.0 = search rules in
    rw e (promise_stopped c.loop-next.invariant.0 c.in_err-next.ensures.meets)

pub returns-then-stands : goal.returns-then-stands
returns-then-stands c = promise_closed (taken_then (taken_piece c.loop-next.invariant.0 c.in_ok-next.ensures) c.plain_rest-here.ensures.taken) c.stands.ensures c.if-stands.true

pub loop-next-preserved : goal.loop-next-preserved
loop-next-preserved c = (taken_then (taken_piece c.loop-next.invariant.0 c.in_ok-next.ensures) c.plain_rest-here.ensures.taken, c.if-stands.ensures)
