-- Contract: the day of a date, and that on which a month begins, within the years 0000 to 9999.
use Rattle.std.specs.Prelude.{cond, ℕ, ◌≤◌, T, leb, ltb, Option, None, Some, Result, Ok, Err}
use Rattle.model.specs.Calendar.{is_valid, day_number}
use Rattle.model.specs.Shift.{month_start}
use Rattle.model.specs.declared.Date.{Date}
use Rattle.days.specs.declared.day.DayFault.{DayFault}
use Rattle.days.specs.declared.day.DayFault.TheVariants.{NoDate, Late}

abbrev pub day_answer : Date → Result ℕ DayFault
day_answer w = cond (is_valid w) (cond (leb w.year 9999) (Ok (day_number w)) (Err Late)) (Err NoDate)

abbrev pub month_answer : ℕ → Option ℕ
month_answer k = cond (ltb k 120000) (Some (month_start k)) None

-- A valid date of these years.
pub record WithinYears (w : Date) : Type 0 where
  pub valid : T (is_valid w)
  pub year_high : w.year ≤ 9999
