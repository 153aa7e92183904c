use mathlib.Core.Path.{◌∙◌}
use mir.Facts.{to_z-of_z}
use Rattle.calendar.specs.Contract.{shifted}
use Rattle.test_calendar.proofs.Entry.{no_unit, told}
use Rattle.test_calendar.proofs.calendar_shift.Goals as goal

pub returns-in_default : goal.returns-in_default
returns-in_default c = let a = c.args in no_unit a.from a.amount a.unit c.in_default.ensures

pub returns : goal.returns
returns c =
    let a = c.args in
    told a.from a.amount a.unit c.in-Some.unit c.in-Some.ensures
    (c.shift_from-shifted.ensures ∙ (λ i. shifted (to_z-of_z c.ranges.from i) (to_z-of_z c.ranges.amount i) c.in-Some.unit))
    c.put_date.ensures
