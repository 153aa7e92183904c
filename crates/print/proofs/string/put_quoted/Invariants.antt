use Prim.Native.Nat.{◌+◌, ◌-◌}
use lib.ListN.{length}
use Rattle.print.proofs.Quoted.{Quoting}
use Rattle.print.proofs.string.put_quoted.Given as goal

abbrev pub invariant-loop-here : goal.invariant-loop-here
invariant-loop-here l = Quoting l.s (l.at + 1) l.initial.output l.here l.output

abbrev pub decreases-loop-here : goal.decreases-loop-here
decreases-loop-here l = length l.s - l.here.from
