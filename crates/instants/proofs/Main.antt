-- Main: the theorems about shifts by months and years, restated with nothing else; the proofs are in Laws, here and in the crates calendar and model.
-- `dateOf t` and `timeOf t` are the date and the time of day of an instant; `monthTo t a` is the month a months after that of t, counted from 0000-01.
-- `Lands t a u w`: the shift is done, and gives an instant of the date w with the time of day of t. (These stand in model's Laws.Shift and in Laws.Shift here.)
use Rattle.std.specs.Prelude.{◌≡◌, ◌↔◌, ℕ, suc, ◌-◌, ◌/◌, ◌%◌, ◌≤◌, ◌<◌, T, ℤ, pos, ◌+ℤ◌}
use Rattle.model.specs.Calendar.{date, month_days}
use Rattle.model.specs.Instant.{in_range}
use Rattle.model.specs.declared.refusal.Fault.TheVariants.{OutOfRange}
use Rattle.model.specs.Result.{refuse}
use Rattle.model.specs.declared.TimeUnit.TheVariants.{Year, Month}
use Rattle.model.proofs.Laws.Shift.{date_of}
use Rattle.calendar.specs.Contract.{shifted}
use Rattle.instants.proofs.Laws.Shift as ShiftLaws
use Rattle.instants.proofs.Laws.Shift.{Lands, month_to}

-- "Year and month shifts keep the day number", which is the day of the month,
pub month_kept :
    (t a : ℤ)
    → T (in_range t)
    → (k : ℕ)
    → month_to t a ≡ pos k
    → k < 120000
    → (date_of t).day ≤ month_days (k / 12) (suc (k % 12))
    → Lands t a Month (date (k / 12) (suc (k % 12)) (date_of t).day)
month_kept = ShiftLaws.month_kept

-- "and days past the month's end run on": they are days of the month after it.
pub month_runs_on :
    (t a : ℤ)
    → T (in_range t)
    → (k : ℕ)
    → month_to t a ≡ pos k
    → k < 120000
    → month_days (k / 12) (suc (k % 12)) < (date_of t).day
    → Lands t a Month (date (suc k / 12) (suc (suc k % 12)) ((date_of t).day - month_days (k / 12) (suc (k % 12))))
month_runs_on = ShiftLaws.month_runs_on

-- A shift by months is 9 exactly where its month is none of the 120,000 months of the years 0000 to 9999.
pub month_out : (t a : ℤ) → T (in_range t) → (shifted t a Month ≡ refuse OutOfRange) ↔ (¬ ((k : ℕ) × (month_to t a ≡ pos k) × (k < 120000)))
month_out = ShiftLaws.month_out

-- A shift by years keeps the month and its day, where the year has that day;
pub year_kept :
    (t a : ℤ)
    → T (in_range t)
    → (y : ℕ)
    → pos (date_of t).year +ℤ a ≡ pos y
    → y ≤ 9999
    → (date_of t).day ≤ month_days y (date_of t).month
    → Lands t a Year (date y (date_of t).month (date_of t).day)
year_kept = ShiftLaws.year_kept

-- where it has not, the day is 29 February, which runs on to 1 March.
pub year_runs_on :
    (t a : ℤ)
    → T (in_range t)
    → (y : ℕ)
    → pos (date_of t).year +ℤ a ≡ pos y
    → y ≤ 9999
    → month_days y (date_of t).month < (date_of t).day
    → ((date_of t).month ≡ 2) × ((date_of t).day ≡ 29) × Lands t a Year (date y 3 1)
year_runs_on = ShiftLaws.year_runs_on

-- It is 9 exactly where the year is none of 0000 to 9999.
pub year_out : (t a : ℤ) → T (in_range t) → (shifted t a Year ≡ refuse OutOfRange) ↔ (¬ ((y : ℕ) × (pos (date_of t).year +ℤ a ≡ pos y) × (y ≤ 9999)))
year_out = ShiftLaws.year_out
