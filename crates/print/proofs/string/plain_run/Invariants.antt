use Prim.Native.Nat.{◌+◌, ◌-◌, ◌≤◌}
use mathlib.Core.Path.{◌≡◌}
use Rattle.std.specs.List.{prefix_len}
use lib.ListN.{length, drop}
use Rattle.print.specs.Inner.{plain}
use Rattle.print.proofs.string.plain_run.Given as goal

abbrev pub invariant-loop-at : goal.invariant-loop-at
invariant-loop-at l = (l.at ≤ length l.s) × (prefix_len plain l.s ≡ l.at + prefix_len plain (drop l.at l.s))

abbrev pub decreases-loop-at : goal.decreases-loop-at
decreases-loop-at l = length l.s - l.at
