use mathlib.Core.Path.{◌∙◌}
use mir.Facts.{to_z-of_z}
use Rattle.model.specs.declared.TimeUnit.TheVariants.{Year, Month, Day, Hour}
use Rattle.instants.proofs.Shifts.{shifted_own}
use Rattle.instants.proofs.shift.shift.Goals as goal

pub returns-in-Year : goal.returns-in-Year
returns-in-Year c =
    rw c.in-Year.is (c.shift_months.ensures ∙ rw (to_z-of_z c.ranges.amount)
    (shifted_own (record { sfits = c.milliseconds.type_inv }) c.milliseconds.ensures c.in_ok-new.ensures c.since_year_0-since.ensures c.args.amount Year))

pub returns-in-Month : goal.returns-in-Month
returns-in-Month c =
    rw c.in-Month.is (c.shift_months-in-Month.ensures ∙ rw (to_z-of_z c.ranges.amount)
    (shifted_own (record { sfits = c.milliseconds.type_inv }) c.milliseconds.ensures c.in_ok-new.ensures c.since_year_0-since.ensures c.args.amount Month))

pub returns-in-Day : goal.returns-in-Day
returns-in-Day c =
    rw c.in-Day.is (c.shift_time.ensures ∙ rw (to_z-of_z c.ranges.amount)
    (shifted_own (record { sfits = c.milliseconds.type_inv }) c.milliseconds.ensures c.in_ok-new.ensures c.since_year_0-since.ensures c.args.amount Day))

pub returns-in-Hour : goal.returns-in-Hour
returns-in-Hour c =
    rw c.in-Hour.is (c.shift_time-in-Hour.ensures ∙ rw (to_z-of_z c.ranges.amount)
    (shifted_own (record { sfits = c.milliseconds.type_inv }) c.milliseconds.ensures c.in_ok-new.ensures c.since_year_0-since.ensures c.args.amount Hour))
