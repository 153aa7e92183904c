use Prim.Native.Nat.{◌-◌}
use lib.ListN.{length, drop}
use Rattle.paths.specs.Laws.Loops.{Left}
use Rattle.op_lookup.specs.Contract.{Leads}
use Rattle.op_lookup.proofs.value_at.Given as goal

abbrev pub invariant-loop-at : goal.invariant-loop-at
invariant-loop-at l = Left (Leads (drop l.at l.path) l.text.strings.now l.text.table.now l.cells l.h) (Leads l.path l.text.strings.now l.text.table.now l.cells l.initial.h)

abbrev pub decreases-loop-at : goal.decreases-loop-at
decreases-loop-at l = length l.path - l.at
