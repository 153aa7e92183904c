use mathlib.Core.Path.{◌≡◌}
use Prim.Native.Nat.{◌-◌}
use lib.ListN.{length, drop}
use Rattle.paths.specs.Contract.{node_along, fragments}
use Rattle.paths.proofs.find.Given as goal

abbrev pub invariant-loop-at : goal.invariant-loop-at
invariant-loop-at l = node_along l.text.table.now l.text.strings.now (fragments (drop l.at l.path)) l.n ≡ node_along l.text.table.now l.text.strings.now (fragments l.path) l.initial.n

abbrev pub decreases-loop-at : goal.decreases-loop-at
decreases-loop-at l = length l.path - l.at
