use Rattle.operations.proofs.Block.{Copied}
use Rattle.operations.proofs.copy.Given as goal

abbrev pub invariant-loop-i : goal.invariant-loop-i
invariant-loop-i l = Copied l.initial.cells l.s.bottom l.s.top l.i l.cells
