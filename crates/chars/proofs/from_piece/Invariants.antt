use mathlib.Core.Bool.{false}
use Prim.Native.Nat.{◌-◌}
use lib.ListN.{length}
use Rattle.scan.specs.Contract.{Stands}
use Rattle.chars.specs.Inner.{Taken}
use Rattle.chars.proofs.from_piece.Given as goal

abbrev pub invariant-loop-next : goal.invariant-loop-next
invariant-loop-next l = Taken l.text l.at l.used l.initial.strings l.here.at l.here.used l.strings × Stands l.text l.here.at 34 false

abbrev pub decreases-loop-next : goal.decreases-loop-next
decreases-loop-next l = length l.text - l.here.at
