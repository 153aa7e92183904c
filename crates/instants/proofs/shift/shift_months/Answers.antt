use mathlib.Core.Path.{◌∙◌}
use Prim.Native.Nat.{◌/◌}
use native.Mathlib.Omega.{arith}
use lib.IntN.{pos, ◌*ℤ◌}
use mir.Facts.{to_z-of_z}
use Rattle.model.proofs.Laws.Calendar.{dated}
use Rattle.instants.proofs.Shifts.{months_near}
use Rattle.instants.proofs.shift.shift_months.Goals as goal

pub returns : goal.returns
returns c =
    let a = c.args in
    let d = dated (a.since / 86400000) c.date_at-year.result (omega arith) c.date_at-year.ensures in
    c.in_month.ensures
    ∙ months_near a.since c.date_at-year.result (a.amount *ℤ pos a.unit) d c.in_ok-to.to (rw (to_z-of_z c.ranges.amount) at c.in_ok-to.ensures)
