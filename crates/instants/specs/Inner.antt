-- Inner: what the private functions of this crate are about.
use Rattle.std.specs.Prelude.{cond, ◌++◌, ℕ, ◌+◌, ◌*◌, ◌<◌, ◌≡◌, ⊤, ltb, ℤ, pos, negsuc, Result as Answer, Ok, Err}
use Rattle.calendar.specs.declared.instant.OutOfRange.{OutOfRange as Out}
use Rattle.model.specs.Bytes.{Bytes, ascii}
use Rattle.model.specs.Instant.{from_year0, latest, ms_per_day, ranged, since_year0}
use Rattle.model.specs.InstantText.{date_digits, time_digits}
use Rattle.model.specs.declared.refusal.Fault.TheVariants.{OutOfRange}
use Rattle.model.specs.Result.{Result, refuse}
use Rattle.model.specs.Shift.{month_start}
use Rattle.model.specs.declared.Date.{Date}

-- The milliseconds from 0000-01-01 to the latest instant.
abbrev pub latest_since_year0 : ℕ
latest_since_year0 = since_year0 latest

-- Before or past all that is counted from 0000: milliseconds, or the fewer months.
abbrev pub Far : ℤ → Type 0
Far (pos n) = latest_since_year0 < n
Far (negsuc n) = ⊤

-- The count that z is; out of range only where z is far.
abbrev pub Moved : ℤ → Answer ℕ Out → Type 0
Moved z (Ok n) = z ≡ pos n
Moved z (Err e) = Far z

-- The months from 0000-01 to 9999-12.
abbrev pub range_months : ℕ
range_months = 120000

-- A month of the range; any other becomes the first after it.
abbrev pub month_of : ℤ → ℕ
month_of (pos k) = cond (ltb k range_months) k range_months
month_of (negsuc k) = range_months

-- The instant some days and milliseconds after the start of a month.
abbrev pub in_month : ℕ → ℕ → ℕ → Result ℤ
in_month month days time = cond (ltb month range_months) (ranged (from_year0 ((month_start month + days) * ms_per_day + time))) (refuse OutOfRange)

-- The text of a date and a time of day in milliseconds.
abbrev pub text_of : Date → ℕ → Bytes
text_of w time = date_digits w ++ (ascii "T" ++ (time_digits time ++ ascii "Z"))
