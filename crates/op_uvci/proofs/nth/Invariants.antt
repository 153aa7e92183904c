use Prim.Native.Nat.{suc, ◌-◌}
use lib.ListN.{length}
use Rattle.model.specs.Operations.{nth_string}
use Rattle.op_uvci.specs.Inner.{fragments_from}
use Rattle.op_uvci.proofs.Fragments.{Seeking}
use Rattle.op_uvci.proofs.nth.Given as goal

abbrev pub invariant-loop-start : goal.invariant-loop-start
invariant-loop-start l = Seeking l.text (nth_string (fragments_from l.text l.at) l.index) l.start l.left

abbrev pub decreases-loop-start : goal.decreases-loop-start
decreases-loop-start l = suc (length l.text) - l.start
