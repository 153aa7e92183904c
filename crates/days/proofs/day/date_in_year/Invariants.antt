use mathlib.Core.Path.{◌≡◌}
use Prim.Native.Nat.{◌+◌, ◌-◌, ◌≤◌}
use Rattle.model.specs.Calendar.{months, sum_first}
use Rattle.days.proofs.day.date_in_year.Given as goal

abbrev pub invariant-loop-rest : goal.invariant-loop-rest
invariant-loop-rest l = (sum_first (l.month - 1) (months l.year) + l.left ≡ l.n) × (1 ≤ l.month) × (l.month ≤ 12)

abbrev pub decreases-loop-rest : goal.decreases-loop-rest
decreases-loop-rest l = 13 - l.month
