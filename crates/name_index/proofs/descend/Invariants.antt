-- The loop's invariant is Going of Steps; ranks rise, so it ends.
use Rattle.name_index.proofs.Steps.{Going}
use Prim.Native.Nat.{◌-◌}
use Rattle.name_index.proofs.descend.Given as goal

abbrev pub invariant-loop-node : goal.invariant-loop-node
invariant-loop-node l = Going l.table l.name l.first l.row l.stop l.at l.from l.link

abbrev pub decreases-loop-node : goal.decreases-loop-node
decreases-loop-node l = 1073741824 - l.from
