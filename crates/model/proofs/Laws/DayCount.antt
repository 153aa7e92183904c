-- DayCount: days in plain terms. The days are counted one by one by the month table, in the order of years, months and days; the range's ends as dates.
use Rattle.std.specs.Prelude.{◌≡◌, refl, Bool, true, false, ◌&&◌, ◌||◌, List, [], ◌∷◌, ℕ, zero, suc, ◌+◌, ◌*◌, ◌-◌, ◌≤◌, ◌<◌, eqb, ltb, pos, ◌+ℤ◌, ◌-ℤ◌}
use Rattle.std.proofs.Common.{sym, ap, ◌∙◌, arith, lt-ltb, le-ltb, eq-eqb, ne_eqb}
use Rattle.std.proofs.Math.Decide.{dec_lt}
use Rattle.model.specs.Calendar.{date, date_of_day, day_number, months, sum_first, year_start}
use Rattle.model.specs.Instant.{earliest, from_year0, latest, ms_before1970, ms_per_day}
use Rattle.model.proofs.Laws.Calendar.{Valid, day_after, first_day, next_day, the_date, day_in_year, dated, sum_next, year_10000, year_mono, closed_form}
use Rattle.model.specs.declared.Date.{Date}

-- ---- one by one
-- So many days after a date.
unfoldable pub days_after : ℕ → Date → Date
days_after zero w = w
days_after (suc n) w = day_after (days_after n w)

pub days_on : (n : ℕ) → date_of_day n ≡ days_after n (date 0 1 1)
unfolding days_after
days_on zero = first_day
days_on (suc n) = next_day n ∙ ap day_after (days_on n)

-- A date's day number is the count of the days from 0000-01-01 to it.
pub counted : (w : Date) → Valid w → w ≡ days_after (day_number w) (date 0 1 1)
counted w v = the_date (day_number w) w v refl ∙ days_on (day_number w)

-- ---- in order
-- By year, then by month, then by day.
abbrev pub earlier : Date → Date → Bool
earlier v w =
    ltb v.year w.year
    || (eqb v.year w.year && (ltb v.month w.month || (eqb v.month w.month && ltb v.day w.day)))

sum_mono : (i j : ℕ) (l : List ℕ) → i ≤ j → sum_first i l ≤ sum_first j l
unfolding sum_first
sum_mono zero j l h = omega arith
sum_mono (suc i) zero l h = absurd (omega arith)
sum_mono (suc i) (suc j) [] h = omega arith
sum_mono (suc i) (suc j) (x ∷ l) h = let e = sum_mono i j l (omega arith) in omega arith

year_order : (v w : Date) → Valid v → Valid w → v.year < w.year → day_number v < day_number w
year_order v w p q h = let a = day_in_year v p in let b = day_in_year w q in let c = year_mono (suc v.year) w.year h in omega arith

-- The days before a date's month.
abbrev before_month : Date → ℕ
before_month w = year_start w.year + sum_first (w.month - 1) (months w.year)

month_order : (v w : Date) → Valid v → v.year ≡ w.year → v.month < w.month → day_number v < day_number w
month_order v w p e h =
    let l = months v.year in
    let low = p.month_low in let day_low = p.day_low in let day_high = p.day_high in
    let a = sum_next v.month l low in
    let b = sum_mono (v.month + 1 - 1) (w.month - 1) l (omega arith) in
    omega (arith, ap year_start e, ap (λ (y : ℕ). sum_first (w.month - 1) (months y)) e)

same_month : (v w : Date) → v.year ≡ w.year → v.month ≡ w.month → before_month v ≡ before_month w
same_month v w e f = rw (e, f)

-- Two tests, the first of which decides unless its numbers are equal.
by_first : (a b : ℕ) (rest whole : Bool) → (a < b → whole ≡ true) → (b < a → whole ≡ false) → (a ≡ b → rest ≡ whole) → ltb a b || (eqb a b && rest) ≡ whole
by_first a b rest whole f g h = go (dec_lt a b) (dec_lt b a)
  where
    go : Dec (a < b) → Dec (b < a) → ltb a b || (eqb a b && rest) ≡ whole
    go (yes k) o = rw (lt-ltb a b k) (sym (f k))
    go (no j) (yes k) = rw (le-ltb a b (omega arith), ne_eqb a b (λ e. omega arith)) (sym (g k))
    go (no j) (no k) = let e : a ≡ b = omega arith in rw (le-ltb a b (omega arith), eq-eqb a b e) (h e)

same_order : (a b c d : ℕ) → (a < b → c < d) → (b ≤ a → d ≤ c) → ltb a b ≡ ltb c d
same_order a b c d f g = go (dec_lt a b)
  where
    go : Dec (a < b) → ltb a b ≡ ltb c d
    go (yes h) = lt-ltb a b h ∙ sym (lt-ltb c d (f h))
    go (no h) = le-ltb a b (omega arith) ∙ sym (le-ltb c d (g (omega arith)))

pub in_order : (v w : Date) → Valid v → Valid w → earlier v w ≡ ltb (day_number v) (day_number w)
in_order v w p q =
    by_first v.year w.year _ _ (λ h. less (year_order v w p q h)) (λ h. more (year_order w v q p h))
    (λ e. by_first v.month w.month _ _ (λ h. less (month_order v w p e h)) (λ h. more (month_order w v q (sym e) h)) (λ f. in_month_lem (same_month v w e f)))
  where
    less : day_number v < day_number w → ltb (day_number v) (day_number w) ≡ true
    less h = lt-ltb (day_number v) (day_number w) h

    more : day_number w < day_number v → ltb (day_number v) (day_number w) ≡ false
    more h = le-ltb (day_number v) (day_number w) (omega arith)

    in_month_lem : before_month v ≡ before_month w → ltb v.day w.day ≡ ltb (day_number v) (day_number w)
    in_month_lem e =
        let a = p.day_low in let b = q.day_low in
        same_order v.day w.day (day_number v) (day_number w) (λ h. omega arith) (λ h. omega arith)

-- ---- dates and day numbers
pub date_again : (w : Date) → Valid w → date_of_day (day_number w) ≡ w
date_again w v = sym (the_date (day_number w) w v refl)

-- The years to 9999 have the day numbers to 3652424; `day-bound` is the other way.
pub year_of_bound : (w : Date) → Valid w → day_number w ≤ 3652424 → w.year ≤ 9999
year_of_bound w v h = (dated (day_number w) w h (the_date (day_number w) w v refl)).year_high

-- ---- the range
pub epoch : day_number (date 1970 1 1) * ms_per_day ≡ ms_before1970
unfolding sum_first
epoch = let e = closed_form 1970 in omega arith

-- The milliseconds of the years 0000 to 9999: those up to the latest instant.
pub range_length : pos (year_start 10000 * ms_per_day) ≡ latest -ℤ earliest +ℤ pos 1
range_length = ap pos (omega (arith, year_10000))

-- The earliest instant is the start of 0000-01-01, and the latest the last millisecond of 9999-12-31.
pub earliest_date : from_year0 (day_number (date 0 1 1) * ms_per_day) ≡ earliest
unfolding sum_first year_start
earliest_date = refl

pub latest_date : from_year0 (day_number (date 9999 12 31) * ms_per_day + (ms_per_day - 1)) ≡ latest
unfolding sum_first months
latest_date = ap from_year0 (let e = closed_form 9999 in let f : day_number (date 9999 12 31) * ms_per_day + (ms_per_day - 1) ≡ 315569519999999 = omega arith in f)
