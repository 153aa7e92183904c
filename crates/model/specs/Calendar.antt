-- Calendar: Gregorian, years from 0000. A day is a date, or the number of days from 0000-01-01 to it.
use Rattle.std.specs.Prelude.{Bool, ◌&&◌, ◌||◌, not, cond, List, [], ◌∷◌, ℕ, zero, suc, ◌+◌, ◌-◌, ◌%◌, eqb, leb, ltb, get_or}
use Rattle.model.specs.declared.Date.{Date}

-- Every fourth year is a leap year, but of the full hundreds only every fourth.
abbrev pub is_leap : ℕ → Bool
is_leap y = eqb (y % 4) 0 && (not (eqb (y % 100) 0) || eqb (y % 400) 0)

-- 01, Dates: "The days of each month, for both kinds of year, stand in a constant table." First a common year, then a leap year.
abbrev pub month_table : List (List ℕ)
month_table =
    (31 ∷ 28 ∷ 31 ∷ 30 ∷ 31 ∷ 30 ∷ 31 ∷ 31 ∷ 30 ∷ 31 ∷ 30 ∷ 31 ∷ [])
    ∷ (31 ∷ 29 ∷ 31 ∷ 30 ∷ 31 ∷ 30 ∷ 31 ∷ 31 ∷ 30 ∷ 31 ∷ 30 ∷ 31 ∷ [])
    ∷ []

-- The table's row of a year.
unfoldable pub months : ℕ → List ℕ
months y = get_or month_table (cond (is_leap y) 1 0) []

-- Months count from 1; `isValid` lets no other through. (Month 0 would be taken as January, one after the twelfth as a month without days.)
abbrev pub month_days : ℕ → ℕ → ℕ
month_days y m = get_or (months y) (m - 1) 0

-- The sum of a list's first k numbers.
unfoldable pub sum_first : ℕ → List ℕ → ℕ
sum_first zero l = 0
sum_first (suc k) [] = 0
sum_first (suc k) (x ∷ l) = x + sum_first k l

abbrev pub year_days : ℕ → ℕ
year_days y = sum_first 12 (months y)

-- The days of all years before y.
unfoldable pub year_start : ℕ → ℕ
year_start zero = 0
year_start (suc y) = year_start y + year_days y

-- The days from 0000-01-01 to a date: those of the years before, of the year's months before, and of the month's days before. (01's "day
-- number", which shifts keep, is the day of the month.)
abbrev pub day_number : Date → ℕ
day_number w = year_start w.year + sum_first (w.month - 1) (months w.year) + (w.day - 1)

-- 01, Dates: "Month 01 to 12, day within its month".
abbrev pub is_valid : Date → Bool
is_valid w = leb 1 w.month && (leb w.month 12 && (leb 1 w.day && leb w.day (month_days w.year w.month)))

abbrev pub date : ℕ → ℕ → ℕ → Date
date y m d = record { year = y; month = m; day = d }

-- The date that is n days after 0000-01-01: whole years are taken off from year 0 on, then whole months from January on.
abbrev pub count_months : ℕ → List ℕ → ℕ → ℕ → Date
count_months y [] m n = date y m (suc n)
count_months y (x ∷ l) m n =
    let later = count_months y l (suc m) (n - x) in
    cond (ltb n x) (date y m (suc n)) later

abbrev pub count_years : ℕ → ℕ → ℕ → Date
count_years zero y n = date y 1 1
count_years (suc k) y n =
    let later = count_years k (suc y) (n - year_days y) in
    cond (ltb n (year_days y)) (count_months y (months y) 1 n) later

-- n + 1 years are enough, as a year has a day at least.
unfoldable pub date_of_day : ℕ → Date
date_of_day n = count_years (suc n) 0 n
