use Rattle.std.proofs.Common.{◌≡◌, ◌-◌}
use Rattle.viewer.specs.View.{nth_within}
use Rattle.viewer.proofs.part.part_from.Given as goal

abbrev pub invariant-loop : goal.invariant-loop
invariant-loop l = nth_within l.table l.end l.nth l.place ≡ nth_within l.table l.end (l.nth - l.counter) l.at
