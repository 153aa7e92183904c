-- Shift: an instant moved by an amount of a unit. 01, Dates: "Year and month shifts keep the day number, and days past the month's end run on,
-- as ECMAScript's setUTCFullYear and setUTCMonth do"; 001: setUTCDate and setUTCHours for days and hours.
use Rattle.std.specs.Prelude.{ℕ, suc, ◌+◌, ◌*◌, ◌-◌, ◌/◌, ◌%◌, ℤ, pos, negsuc, ◌+ℤ◌, ◌*ℤ◌, neg_ℤ}
use Rattle.model.specs.Calendar.{date, day_number, date_of_day}
use Rattle.model.specs.Instant.{ranged, earliest, since_year0, ms_per_day, ms_per_hour}
use Rattle.model.specs.Result.{Result}
use Rattle.model.specs.declared.Date.{Date}
use Rattle.model.specs.declared.TimeUnit.{TimeUnit}
use Rattle.model.specs.declared.TimeUnit.TheVariants.{Year, Month, Day, Hour}

-- The days from 0000-01-01 to the first of a month, which is counted from 0000-01.
abbrev pub month_start : ℕ → ℕ
month_start k = day_number (date (k / 12) (suc (k % 12)) 1)

-- The same of any month, before year 0 too: the calendar repeats itself every 400 years, which are 4,800 months and 146,097 days.
abbrev pub month_first : ℤ → ℤ
month_first (pos k) = pos (146097 * (k / 4800) + month_start (k % 4800))
month_first (negsuc k) =
    let cycles = k / 4800 + 1 in
    pos (month_start (4800 * cycles - suc k)) +ℤ neg_ℤ (pos (146097 * cycles))

-- The months from 0000-01 to a date's own.
abbrev pub month_number : Date → ℕ
month_number w = w.year * 12 + (w.month - 1)

-- The instant some days and milliseconds after the start of a day, which is counted from 0000-01-01 and may be before it.
abbrev pub after : ℕ → ℕ → ℤ → Result ℤ
after days time first = ranged (((first +ℤ pos days) *ℤ pos ms_per_day +ℤ pos time) +ℤ earliest)

-- Milliseconds since 0000-01-01, counted on by months: the day of the month and the time of day stay.
abbrev pub moved_by_months : ℕ → ℤ → Result ℤ
moved_by_months u amount =
    let w = date_of_day (u / ms_per_day) in
    after (w.day - 1) (u % ms_per_day) (month_first (pos (month_number w) +ℤ amount))

abbrev pub shift_months : ℤ → ℤ → Result ℤ
shift_months t amount = moved_by_months (since_year0 t) amount

-- An instant in range, shifted; 9 where the shifted one is not in range.
unfoldable pub shift : ℤ → ℤ → TimeUnit → Result ℤ
shift t amount Year = shift_months t (amount *ℤ pos 12)
shift t amount Month = shift_months t amount
shift t amount Day = ranged (t +ℤ amount *ℤ pos ms_per_day)
shift t amount Hour = ranged (t +ℤ amount *ℤ pos ms_per_hour)
