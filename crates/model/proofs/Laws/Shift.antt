-- Shift: a shift gives an instant in range or is refused as out of range; a shift by nothing; shifts by months and years in plain terms; one shift after another.
use Rattle.std.proofs.Common.{sym, ◌∙◌, ap, subst, arith, le-ltb, ltb-true, ltb-false}
use Rattle.std.specs.Prelude.{◌≡◌, refl, Bool, true, false, cond, List, ℕ, zero, suc, ◌+◌, ◌*◌, ◌-◌, ◌/◌, ◌%◌, ◌<◌, T, ltb, nat_abs, ℤ, pos, negsuc, neg_ℤ, ◌+ℤ◌, ◌*ℤ◌}
use Rattle.std.proofs.Math.Decide.{dec_lt}
use Rattle.std.proofs.Math.IntN.{zero-*ℤ, suc_ℤ, pred_ℤ, +ℤ-suc_ℤ, suc_ℤ-*ℤ, +ℤ-pred_ℤ, pred_ℤ-*ℤ, pos-ne-negsuc, +ℤ_assoc, neg_ℤ-+ℤ, -ℤ-+ℤ_cancel, +ℤ_idr}
use Rattle.model.specs.Bytes.{ascii}
use Rattle.model.specs.Calendar.{date, month_days, months, sum_first, year_start, day_number, date_of_day}
use Rattle.model.specs.DateText.{starts_like, day_text}
use Rattle.model.specs.Instant.{earliest, in_range, ranged, from_year0, since_year0, ms_per_day, ms_per_hour}
use Rattle.model.specs.declared.refusal.Fault.{Fault}
use Rattle.model.specs.declared.refusal.Fault.TheVariants.{WrongKind, BadDate, OutOfRange}
use Rattle.model.specs.Result.{◌>>=◌, Result, ok, refuse, provided}
use Rattle.model.specs.Shift.{after, month_start, month_first, month_number, shift_months, shift}
use Rattle.model.proofs.Laws.Calendar.{same_parts, year_cycle, months_cycle, sum_next, sum_step, Valid, date_of_day_lem}
use Rattle.model.proofs.Laws.DateText.{Within, only_out, within_ranged, ranged_ok, since_back}
use Rattle.model.specs.declared.Date.{Date}
use Rattle.model.specs.declared.TimeUnit.{TimeUnit}
use Rattle.model.specs.declared.TimeUnit.TheVariants.{Year, Month, Day, Hour}

-- ---- what a shift gives
within_months : (t a : ℤ) → Within only_out (shift_months t a)
within_months t a =
    let u = since_year0 t in
    let w = date_of_day (u / ms_per_day) in
    within_ranged only_out tt (((month_first (pos (month_number w) +ℤ a) +ℤ pos (w.day - 1)) *ℤ pos ms_per_day +ℤ pos (u % ms_per_day)) +ℤ earliest)

pub shift_within : (t a : ℤ) (u : TimeUnit) → Within only_out (shift t a u)
unfolding shift
shift_within t a Year = within_months t (a *ℤ pos 12)
shift_within t a Month = within_months t a
shift_within t a Day = within_ranged only_out tt (t +ℤ a *ℤ pos ms_per_day)
shift_within t a Hour = within_ranged only_out tt (t +ℤ a *ℤ pos ms_per_hour)

pub shift_in_range : (t a : ℤ) (u : TimeUnit) (r : ℤ) → shift t a u ≡ ok r → T (in_range r)
shift_in_range t a u r e = subst (Within only_out) e (shift_within t a u)

-- A shift is refused only as out of range.
pub shift_never_bad : (t a : ℤ) (u : TimeUnit) (f : Fault) → shift t a u ≡ refuse f → f ≡ OutOfRange
shift_never_bad t a u f e = only f (subst (Within only_out) e (shift_within t a u))
  where
    only : (f : Fault) → T (only_out f) → f ≡ OutOfRange
    only WrongKind h = absurd h
    only BadDate h = absurd h
    only OutOfRange h = refl

-- ---- cycles of 400 years
-- The same month 400 years later begins 146,097 days later,
month_cycle_later : (k : ℕ) → month_start (k + 4800) ≡ month_start k + 146097
month_cycle_later k =
    let a : (k + 4800) / 12 ≡ k / 12 + 400 = omega arith in
    let b : (k + 4800) % 12 ≡ k % 12 = omega arith in
    rw (a, b, year_cycle (k / 12), months_cycle (k / 12)) (omega arith)

-- and so on for more of them:
month_cycles : (c k : ℕ) → month_start (4800 * c + k) ≡ 146097 * c + month_start k
month_cycles zero k = ap month_start (let e : 4800 * 0 + k ≡ k = omega arith in e) ∙ (let e : month_start k ≡ 146097 * 0 + month_start k = omega arith in e)
month_cycles (suc c) k =
    let e : 4800 * suc c + k ≡ 4800 * c + k + 4800 = omega arith in
    ap month_start e ∙ (month_cycle_later (4800 * c + k) ∙ omega (arith, month_cycles c k))

-- the whole cycles of a month taken off and counted change nothing.
pub month_first_lem : (k : ℕ) → 146097 * (k / 4800) + month_start (k % 4800) ≡ month_start k
month_first_lem k = sym (month_cycles (k / 4800) (k % 4800)) ∙ ap month_start (let e : 4800 * (k / 4800) + k % 4800 ≡ k = omega arith in e)

-- ---- a shift by nothing
-- A date's day number from the first of its month.
pub month_start_lem : (w : Date) → Valid w → month_start (month_number w) + (w.day - 1) ≡ day_number w
month_start_lem w v =
    let m = v.month_low in let m' = v.month_high in
    let k = month_number w in
    let e : k / 12 ≡ w.year = omega arith in
    let f : suc (k % 12) - 1 ≡ w.month - 1 = omega arith in
    omega (arith, ap year_start e, ap (λ (y : ℕ). sum_first (suc (k % 12) - 1) (months y)) e, ap (λ (i : ℕ). sum_first i (months w.year)) f)

months_none : (t : ℤ) → T (in_range t) → shift_months t (pos 0) ≡ ok t
months_none t h =
    let u = since_year0 t in
    let r = date_of_day_lem (u / ms_per_day) in
    let w = date_of_day (u / ms_per_day) in
    let s = month_start_lem w r.good in
    let c = r.counts in
    let z : month_number w + 0 ≡ month_number w = omega arith in
    let f : (month_start (month_number w + 0) + (w.day - 1)) * ms_per_day + u % ms_per_day ≡ u = rw z (omega arith) in
    ap (λ (x : ℕ). ranged (from_year0 ((x + (w.day - 1)) * ms_per_day + u % ms_per_day))) (month_first_lem (month_number w + 0))
    ∙ (ap (λ (x : ℕ). ranged (from_year0 x)) f ∙ (ap ranged (since_back t h) ∙ ranged_ok t h))

pub shift_none : (t : ℤ) (u : TimeUnit) → T (in_range t) → shift t (pos 0) u ≡ ok t
unfolding shift
shift_none t Year h = months_none t h
shift_none t Month h = months_none t h
shift_none t Day h = ap ranged (+ℤ_idr t) ∙ ranged_ok t h
shift_none t Hour h = ap ranged (+ℤ_idr t) ∙ ranged_ok t h

-- ---- the first of a month
-- It lies the month's days before the first of the next month.
pub month_next : (k : ℕ) → month_start (suc k) ≡ month_start k + month_days (k / 12) (suc (k % 12))
unfolding year_start sum_first
month_next k = go (dec_lt (k % 12) 11)
  where
    l : List ℕ
    l = months (k / 12)

    go : Dec (k % 12 < 11) → month_start (suc k) ≡ month_start k + month_days (k / 12) (suc (k % 12))
    go (yes h) =
        let a : suc k / 12 ≡ k / 12 = omega arith in
        let b : suc k % 12 ≡ suc (k % 12) = omega arith in
        let c : suc (suc (k % 12)) - 1 ≡ suc (k % 12) + 1 - 1 = omega arith in
        rw (a, b, c) (omega (arith, sum_next (suc (k % 12)) l (omega arith)))
    go (no h) =
        let a : suc k / 12 ≡ suc (k / 12) = omega arith in
        let b : suc k % 12 ≡ 0 = omega arith in
        let c : k % 12 ≡ 11 = omega arith in
        rw (a, b, c) (omega (arith, sum_step 11 l))

add_back : (a b c : ℕ) → pos a +ℤ neg_ℤ (pos (b + c)) +ℤ pos c ≡ pos a +ℤ neg_ℤ (pos b)
add_back a b c = +ℤ_assoc (pos a) (neg_ℤ (pos (b + c))) (pos c) ∙ ap (λ (z : ℤ). pos a +ℤ z) back
  where
    back : neg_ℤ (pos (b + c)) +ℤ pos c ≡ neg_ℤ (pos b)
    back = ap (λ (z : ℤ). z +ℤ pos c) (neg_ℤ-+ℤ (pos b) (pos c)) ∙ -ℤ-+ℤ_cancel (neg_ℤ (pos b)) (pos c)

-- 400 years later everything stands 146,097 days later, before year 0 too.
pub month_cycle : (z : ℤ) → month_first (z +ℤ pos 4800) ≡ month_first z +ℤ pos 146097
month_cycle (pos k) =
    let a : (k + 4800) / 4800 ≡ k / 4800 + 1 = omega arith in
    let b : (k + 4800) % 4800 ≡ k % 4800 = omega arith in
    ap pos (rw (a, b) (omega arith))
month_cycle (negsuc k) = go (ltb 4800 (suc k)) refl
  where
    go : (b : Bool) → ltb 4800 (suc k) ≡ b → month_first (cond b (negsuc (suc k - 4801)) (pos (4800 - suc k))) ≡ month_first (negsuc k) +ℤ pos 146097
    go true e =
        let h = ltb-true 4800 (suc k) e in
        let j = suc k - 4801 in
        let c : k / 4800 ≡ j / 4800 + 1 = omega arith in
        let m : 4800 * (j / 4800 + 1) - suc j ≡ 4800 * (k / 4800 + 1) - suc k = omega arith in
        let d : 146097 * (k / 4800 + 1) ≡ 146097 * (j / 4800 + 1) + 146097 = omega arith in
        rw (m, d) (sym (add_back (month_start (4800 * (k / 4800 + 1) - suc k)) (146097 * (j / 4800 + 1)) 146097))
    go false e =
        let h = ltb-false 4800 (suc k) e in
        let c : k / 4800 ≡ 0 = omega arith in
        ap pos (month_first_lem (4800 - suc k)) ∙ rw c (sym (-ℤ-+ℤ_cancel (pos (month_start (4800 - suc k))) (pos 146097)))

-- ---- a shift by months and years in plain terms
-- The date and the time of day of an instant, and the instant that has them.
abbrev pub date_of : ℤ → Date
date_of t = date_of_day (since_year0 t / ms_per_day)

abbrev pub time_of : ℤ → ℕ
time_of t = since_year0 t % ms_per_day

abbrev pub instant_of : Date → ℕ → Result ℤ
instant_of w time = ranged (from_year0 (day_number w * ms_per_day + time))

shift_to : (t a : ℤ) (k : ℕ) → pos (month_number (date_of t)) +ℤ a ≡ pos k → shift_months t a ≡ instant_of (date (k / 12) (suc (k % 12)) (date_of t).day) (time_of t)
shift_to t a k e =
    let d = (date_of t).day - 1 in
    let f : 146097 * (k / 4800) + month_start (k % 4800) + d ≡ day_number (date (k / 12) (suc (k % 12)) (date_of t).day) = omega (arith, month_first_lem k) in
    ap (λ (z : ℤ). after d (time_of t) (month_first z)) e
    ∙ ap (λ (n : ℕ). ranged (from_year0 (n * ms_per_day + time_of t))) f

-- "Year and month shifts keep the day number" (the day of the month), "and days past the month's end run on": day_number counts them on. Here k counts the months from 0000-01 to the month that is shifted to.
pub shift_month_lem : (t a : ℤ) (k : ℕ) → pos (month_number (date_of t)) +ℤ a ≡ pos k → shift t a Month ≡ instant_of (date (k / 12) (suc (k % 12)) (date_of t).day) (time_of t)
unfolding shift
shift_month_lem t a k e = shift_to t a k e

months_of_years : (x y m : ℕ) (a : ℤ) → pos x +ℤ a ≡ pos y → pos (x * 12 + m) +ℤ a *ℤ pos 12 ≡ pos (y * 12 + m)
months_of_years x y m (pos n) e = let f : x + n ≡ y = ap nat_abs e in ap pos (omega arith)
months_of_years x y m (negsuc n) e = go (ltb x (suc n)) refl e
  where
    go : (b : Bool) → ltb x (suc n) ≡ b → cond b (negsuc (suc n - suc x)) (pos (x - suc n)) ≡ pos y → pos (x * 12 + m) +ℤ neg_ℤ (pos (suc n * 12)) ≡ pos (y * 12 + m)
    go true f e = absurd (pos-ne-negsuc y (suc n - suc x) (sym e))
    go false f e =
        let h = ltb-false x (suc n) f in
        let g : x - suc n ≡ y = ap nat_abs e in
        let c : suc n * 12 ≡ suc (n * 12 + 11) = omega arith in
        rw c (rw (le-ltb (x * 12 + m) (suc (n * 12 + 11)) (omega arith)) (ap pos (omega arith)))

-- A shift by years goes to the same month and day of another year.
pub shift_year : (t a : ℤ) (y : ℕ) → pos (date_of t).year +ℤ a ≡ pos y → shift t a Year ≡ instant_of (date y (date_of t).month (date_of t).day) (time_of t)
unfolding shift
shift_year t a y e =
    let w = date_of t in
    let v = (date_of_day_lem (since_year0 t / ms_per_day)).good in
    let low = v.month_low in let high = v.month_high in
    let k = y * 12 + (w.month - 1) in
    shift_to t (a *ℤ pos 12) k (months_of_years w.year y (w.month - 1) a e)
    ∙ ap (λ (x : Date). instant_of x (time_of t)) (same_parts (date (k / 12) (suc (k % 12)) w.day) (date y w.month w.day) (omega arith) (omega arith) refl)

-- Document 001, "Leap days": 2020-02-29 and one day, one month, one year.
pub leap_day_and_day : (day_text (ascii "2020-02-29") >>= λ t. shift t (pos 1) Day) ≡ day_text (ascii "2020-03-01")
unfolding shift day_text starts_like date_of_day months sum_first year_start
leap_day_and_day = refl

pub leap_day_and_month : (day_text (ascii "2020-02-29") >>= λ t. shift t (pos 1) Month) ≡ day_text (ascii "2020-03-29")
unfolding shift day_text starts_like date_of_day months sum_first year_start
leap_day_and_month = refl

pub leap_day_and_year : (day_text (ascii "2020-02-29") >>= λ t. shift t (pos 1) Year) ≡ day_text (ascii "2021-03-01")
unfolding shift day_text starts_like date_of_day months sum_first year_start
leap_day_and_year = refl

-- ---- one shift as another, and one after another
-- Twelve months are a year, and 24 hours a day.
pub twelve_months : (t a : ℤ) → shift t (a *ℤ pos 12) Month ≡ shift t a Year
unfolding shift
twelve_months t a = refl

hours_of_days : (a : ℤ) → a *ℤ pos 24 *ℤ pos ms_per_hour ≡ a *ℤ pos ms_per_day
hours_of_days (pos n) = ap pos (let e : n * 24 * 3600000 ≡ n * 86400000 = omega arith in e)
hours_of_days (negsuc n) =
    let e : suc n * 24 ≡ suc (n * 24 + 23) = omega arith in
    let f : suc (n * 24 + 23) * 3600000 ≡ suc n * 86400000 = omega arith in
    rw e (ap (λ (k : ℕ). neg_ℤ (pos k)) f)

pub hours_24 : (t a : ℤ) → shift t (a *ℤ pos 24) Hour ≡ shift t a Day
unfolding shift
hours_24 t a = ap (λ (z : ℤ). ranged (t +ℤ z)) (hours_of_days a)

-- The sum of two amounts, times a unit: by counting the second amount up or down.
sum_times : (k n m : ℤ) → (n +ℤ m) *ℤ k ≡ n *ℤ k +ℤ m *ℤ k
sum_times k n m = go m
  where
    Sum : ℤ → Type 0
    Sum m = (n +ℤ m) *ℤ k ≡ n *ℤ k +ℤ m *ℤ k

    none : Sum (pos 0)
    none = simp (+ℤ_idr, zero-*ℤ)

    up : (m : ℤ) → Sum m → Sum (suc_ℤ m)
    up m e = simp (+ℤ-suc_ℤ, suc_ℤ-*ℤ, e, +ℤ_assoc)

    down : (m : ℤ) → Sum m → Sum (pred_ℤ m)
    down m e = simp (+ℤ-pred_ℤ, pred_ℤ-*ℤ, e, +ℤ_assoc)

    go : (m : ℤ) → Sum m
    go (pos zero) = none
    go (pos (suc m)) = up (pos m) (go (pos m))
    go (negsuc zero) = down (pos 0) none
    go (negsuc (suc m)) = down (negsuc m) (go (negsuc m))

ranged_is : (t r : ℤ) → ranged t ≡ ok r → t ≡ r
ranged_is t r e = go (in_range t) e
  where
    go : (b : Bool) → provided b OutOfRange (ok t) ≡ ok r → t ≡ r
    go true e = cc
    go false e = cc

moved_twice : (k t s n m : ℤ) → ranged (t +ℤ n *ℤ k) ≡ ok s → ranged (s +ℤ m *ℤ k) ≡ ranged (t +ℤ (n +ℤ m) *ℤ k)
moved_twice k t s n m e =
    ap (λ (z : ℤ). ranged (z +ℤ m *ℤ k)) (sym (ranged_is (t +ℤ n *ℤ k) s e))
    ∙ ap ranged (+ℤ_assoc t (n *ℤ k) (m *ℤ k) ∙ ap (λ (z : ℤ). t +ℤ z) (sym (sum_times k n m)))

-- By n days and then by m is by n + m, where the first stays in range; so of hours.
pub days_twice : (t s n m : ℤ) → shift t n Day ≡ ok s → shift s m Day ≡ shift t (n +ℤ m) Day
unfolding shift
days_twice = moved_twice (pos ms_per_day)

pub hours_twice : (t s n m : ℤ) → shift t n Hour ≡ ok s → shift s m Hour ≡ shift t (n +ℤ m) Hour
unfolding shift
hours_twice = moved_twice (pos ms_per_hour)
