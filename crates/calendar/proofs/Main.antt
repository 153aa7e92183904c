-- Main: the theorems of the calendar, restated with nothing else; the proofs are in Laws, here and in the crate model. (Shifts by months and years: the crate instants.)
-- `dayAfter w` is the next day of w's month by the month table, or the first of the next month, or the first of the next year; `daysAfter n` takes it n times.
-- `earlier` compares two dates by year, then by month, then by day. (These stand in model's Laws.Calendar and Laws.DayCount.)
use Rattle.std.specs.Prelude.{Result as Answer, Ok, Err, ◌≡◌, refl, ◌++◌, ◌⊎◌, ◌↔◌, ℕ, ◌+◌, ◌*◌, ◌-◌, ◌≤◌, T, ltb, ℤ, pos, ◌+ℤ◌, ◌-ℤ◌, ◌*ℤ◌}
use Rattle.model.specs.Bytes.{Bytes, ascii}
use Rattle.model.specs.Calendar.{date, date_of_day, day_number, is_valid, month_days, year_start}
use Rattle.model.specs.DateText.{date_text, day_text, like, month_in, year_in}
use Rattle.model.specs.Instant.{earliest, from_year0, in_range, latest, ms_before1970, ms_per_day}
use Rattle.model.specs.InstantText.{digits2, instant_text}
use Rattle.model.specs.declared.refusal.Fault.TheVariants.{OutOfRange}
use Rattle.model.specs.Result.{ok, refuse}
use Rattle.model.specs.Shift.{shift}
use Rattle.model.specs.declared.Date.{Date}
use Rattle.model.specs.declared.TimeUnit.{TimeUnit}
use Rattle.model.specs.declared.TimeUnit.TheVariants.{Year, Month, Day, Hour}
use Rattle.model.proofs.Laws.Calendar as CalendarLaws
use Rattle.model.proofs.Laws.DayCount as DayCountLaws
use Rattle.model.proofs.Laws.DayCount.{days_after, earlier}
use Rattle.model.proofs.Laws.InstantText as InstantTextLaws
use Rattle.calendar.specs.Contract.{date_number, date_result, instant_number, instant_result, shifted}
use Rattle.calendar.proofs.Laws.Answer as AnswerLaws
use Rattle.calendar.specs.declared.instant.DateFault.{DateFault}
use Rattle.calendar.specs.declared.instant.DateFault.TheVariants as Dated
use Rattle.calendar.specs.declared.instant.Instant.{Instant}
use Rattle.calendar.specs.declared.instant.OutOfRange.{OutOfRange as Out}

-- ---- days
-- A date's day number is the count of the days from 0000-01-01 to it, by the table.
pub counted : (w : Date) → T (is_valid w) → w ≡ days_after (day_number w) (date 0 1 1)
counted w valid = DayCountLaws.counted w (CalendarLaws.valid_parts w valid)

-- The earlier date has the smaller day number.
pub in_order : (v w : Date) → T (is_valid v) → T (is_valid w) → earlier v w ≡ ltb (day_number v) (day_number w)
in_order v w valid-v valid-w = DayCountLaws.in_order v w (CalendarLaws.valid_parts v valid-v) (CalendarLaws.valid_parts w valid-w)

-- A valid date and its day number determine each other,
pub date_again : (w : Date) → T (is_valid w) → date_of_day (day_number w) ≡ w
date_again w valid = DayCountLaws.date_again w (CalendarLaws.valid_parts w valid)

pub day_again : (n : ℕ) → T (is_valid (date_of_day n)) × (day_number (date_of_day n) ≡ n)
day_again n = let r = CalendarLaws.date_of_day_lem n in (CalendarLaws.parts_valid (date_of_day n) r.good, r.counts)

-- in the range too: the days of the years 0000 to 9999 are those from 0 to 3652424.
pub year_9999 : (w : Date) → T (is_valid w) → (w.year ≤ 9999) ↔ (day_number w ≤ 3652424)
year_9999 w valid = let v = CalendarLaws.valid_parts w valid in (CalendarLaws.day_bound w v, DayCountLaws.year_of_bound w v)

-- ---- the range
-- 1970-01-01, from which instants count, begins so many milliseconds after 0000-01-01.
pub epoch : day_number (date 1970 1 1) * ms_per_day ≡ ms_before1970
epoch = DayCountLaws.epoch

-- "The earliest and the latest instant": the start of 0000-01-01 and the last millisecond of 9999-12-31.
pub earliest_date : from_year0 (day_number (date 0 1 1) * ms_per_day) ≡ earliest
earliest_date = DayCountLaws.earliest_date

pub latest_date : from_year0 (day_number (date 9999 12 31) * ms_per_day + (ms_per_day - 1)) ≡ latest
latest_date = DayCountLaws.latest_date

-- As many instants are in range as the years 0000 to 9999 have milliseconds.
pub range_length : pos (year_start 10000 * ms_per_day) ≡ latest -ℤ earliest +ℤ pos 1
range_length = DayCountLaws.range_length

-- ---- answers
-- What an answer says fixes the answer.
pub instant_answer_once : (a b : Answer Instant Out) → instant_result a ≡ instant_result b → a ≡ b
instant_answer_once = AnswerLaws.instant_answer_once

pub date_answer_once : (a b : Answer Instant DateFault) → date_result a ≡ date_result b → a ≡ b
date_answer_once = AnswerLaws.date_answer_once

-- Done is 0, a bad date 8, and out of range 9.
pub instant_numbers : (t : Instant) (e : Out) → (instant_number (Ok t) ≡ 0) × (instant_number (Err e) ≡ 9)
instant_numbers t e = (refl, refl)

pub date_numbers : (t : Instant) → (date_number (Ok t) ≡ 0) × (date_number (Err Dated.BadDate) ≡ 8) × (date_number (Err Dated.OutOfRange) ≡ 9)
date_numbers t = (refl, refl, refl)

-- ---- texts
-- An instant's text reads back as the instant.
pub text_again : (t : Instant) (r : Answer Instant DateFault) → T (in_range t.ms) → date_result r ≡ date_text (instant_text t.ms) → r ≡ Ok t
text_again = AnswerLaws.text_again

-- "YYYY is its 31 December; YYYY-MM its month's last day."
pub year_text : (s : Bytes) → T (like (ascii "0000") s) → day_text s ≡ day_text (s ++ ascii "-12-31")
year_text = InstantTextLaws.year_text

pub month_text : (s : Bytes) → T (like (ascii "0000-00") s) → day_text s ≡ day_text (s ++ (ascii "-" ++ digits2 (month_days (year_in s) (month_in s))))
month_text = InstantTextLaws.month_text

-- ---- shifts
-- "The text's own instant and the shifted one must both lie between, else 9":
pub own_out : (t a : ℤ) (u : TimeUnit) → ¬ T (in_range t) → shifted t a u ≡ refuse OutOfRange
own_out = AnswerLaws.own_out

pub shift_answer_lem :
    (t a : ℤ) (u : TimeUnit) (r : Answer Instant Out)
    → instant_result r ≡ shifted t a u
    → ((e : Out) × (r ≡ Err e)) ⊎ ((s : Instant) × (r ≡ Ok s) × T (in_range s.ms))
shift_answer_lem = AnswerLaws.shift_answer_lem

-- Of an instant in range, it is the model's shift.
pub own_in : (t a : ℤ) (u : TimeUnit) → T (in_range t) → shifted t a u ≡ shift t a u
own_in = AnswerLaws.own_in

-- A shift by 0 changes nothing.
pub shift_zero : (t : ℤ) (u : TimeUnit) → T (in_range t) → shifted t (pos 0) u ≡ ok t
shift_zero = AnswerLaws.shift_zero

-- By n days and then by m is by n + m, where the first stays in range; so of hours.
pub days_add : (t s n m : ℤ) → shifted t n Day ≡ ok s → shifted s m Day ≡ shifted t (n +ℤ m) Day
days_add = AnswerLaws.days_add

pub hours_add : (t s n m : ℤ) → shifted t n Hour ≡ ok s → shifted s m Hour ≡ shifted t (n +ℤ m) Hour
hours_add = AnswerLaws.hours_add

-- Twelve months are a year, and 24 hours a day.
pub year_months : (t a : ℤ) → shifted t (a *ℤ pos 12) Month ≡ shifted t a Year
year_months = AnswerLaws.year_months

pub day_hours : (t a : ℤ) → shifted t (a *ℤ pos 24) Hour ≡ shifted t a Day
day_hours = AnswerLaws.day_hours
