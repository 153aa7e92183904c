use mathlib.Core.Path.{◌≡◌}
use Prim.Native.Nat.{◌-◌, ◌*◌, ◌≤◌}
use Rattle.model.specs.Calendar.{months, sum_first}
use Rattle.days.proofs.day.months_before.Given as goal

abbrev pub invariant-loop-m : goal.invariant-loop-m
invariant-loop-m l = (l.sum ≡ sum_first (l.m - 1) (months l.year)) × (l.sum ≤ 31 * (l.m - 1))
