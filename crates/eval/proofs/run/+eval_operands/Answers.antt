use mathlib.Core.Path.{refl}
use native.Mathlib.Omega.{arith}
use Rattle.eval.specs.declared.task.Next.TheVariants.{Asks}
use Rattle.eval.proofs.Steps.{ended, begun_operating, first_falls, evaluated, inv_as, inv_begins, inv_ends, asked_room, asked_falls, asked_taking, fewer_left, inv_next}
use Rattle.eval.proofs.run.+eval_operands.Goals as goal

pub eval-start-requires : goal.eval-start-requires
eval-start-requires t c = c.requires

pub eval-operands-e-requires : goal.eval-operands-e-requires
eval-operands-e-requires t c = (omega (arith, first_falls c.start.ensures c.in-Asks.first c.in-Asks.frame c.in-Asks.is), begun_operating c.start.ensures c.in-Asks.first c.in-Asks.frame c.in-Asks.is c.requires)

pub eval-returns-in-Ends : goal.eval-returns-in-Ends
eval-returns-in-Ends t c = ended c.start.ensures c.in-Ends.e c.in-Ends.is c.resumed.ensures

pub eval-shape_of-cells-in-Asks : goal.eval-shape_of-cells-in-Asks
eval-shape_of-cells-in-Asks t c = (evaluated c.start.ensures c.in-Asks.first c.in-Asks.frame c.in-Asks.is c.operands-e.ensures c.resumed-in-Asks.ensures).same.size

pub eval-returns-in-Asks : goal.eval-returns-in-Asks
eval-returns-in-Asks t c = evaluated c.start.ensures c.in-Asks.first c.in-Asks.frame c.in-Asks.is c.operands-e.ensures c.resumed-in-Asks.ensures

pub operands-loop-end-init : goal.operands-loop-end-init
operands-loop-end-init t c = inv_begins c.requires

pub operands-eval-e-requires : goal.operands-eval-e-requires
operands-eval-e-requires t c = (omega (arith, asked_falls c.loop-end.invariant c.loop-end.task c.loop-end.frame refl), asked_room c.loop-end.invariant c.loop-end.task c.loop-end.frame refl)

pub operands-take-requires : goal.operands-take-requires
operands-take-requires t c = asked_taking c.loop-end.invariant c.loop-end.task c.loop-end.frame refl c.eval-e.ensures

pub operands-shape_of-cells-in-Ends : goal.operands-shape_of-cells-in-Ends
operands-shape_of-cells-in-Ends t c = ((inv_next c.loop-end.invariant c.loop-end.task c.loop-end.frame refl c.eval-e.ensures c.take.ensures).same c.requires.base c.requires.within).size

pub operands-returns-in-Ends : goal.operands-returns-in-Ends
operands-returns-in-Ends t c = inv_ends (inv_next c.loop-end.invariant c.loop-end.task c.loop-end.frame refl c.eval-e.ensures c.take.ensures) c.in-Ends.end c.in-Ends.is

pub operands-loop-end-smaller : goal.operands-loop-end-smaller
operands-loop-end-smaller t c = rw c.in-Asks.is at (fewer_left c.loop-end.invariant c.loop-end.task c.loop-end.frame refl c.eval-e.ensures c.take.ensures)

pub operands-loop-end-preserved : goal.operands-loop-end-preserved
operands-loop-end-preserved t c = inv_as (Asks c.in-Asks.t c.in-Asks.f) c.in-Asks.is (inv_next c.loop-end.invariant c.loop-end.task c.loop-end.frame refl c.eval-e.ensures c.take.ensures)
