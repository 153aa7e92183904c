-- Calendar: dates and day numbers answer each other; the closed form of the days before a year; the day after a date.
use Rattle.std.specs.Prelude.{◌≡◌, refl, Bool, true, false, ◌&&◌, ◌||◌, not, cond, List, [], ◌∷◌, ℕ, zero, suc, ◌+◌, ◌*◌, ◌-◌, ◌/◌, ◌%◌, ◌≤◌, ◌<◌, T, eqb, leb, ltb, get_or, length}
use Rattle.std.proofs.Common.{sym, subst, ap, ◌∙◌, add-one, arith, le_refl, div-add-mod', mod-lt, ltb-true, ltb-false, eqb-true, leb→le, le→leb, lit≤, lit<}
use Rattle.std.proofs.Math.Decide.{dec_le, dec_lt}
use Rattle.std.proofs.Math.Nat.{div-eq_of_lt-le, mod-mod_of_dvd, dvd-mul_right, zero-mod}
use Rattle.std.proofs.lemmas.Bool.{eqb-false}
use Rattle.model.specs.Calendar.{is_leap, month_table, months, month_days, sum_first, year_days, year_start, day_number, is_valid, date, count_months, count_years, date_of_day}
use Rattle.model.proofs.Laws.Logic.{and_l, and_r, and_i}
use Rattle.model.specs.declared.Date.{Date}

-- ---- the days of years
pub year_days_lem : (y : ℕ) → year_days y ≡ cond (is_leap y) 366 365
unfolding months sum_first
year_days_lem y = go (is_leap y)
  where
    go : (b : Bool) → sum_first 12 (get_or month_table (cond b 1 0) []) ≡ cond b 366 365
    go true = refl
    go false = refl

-- The same with the table's row.
pub year_days_row : (y : ℕ) → year_days y ≡ 365 + cond (is_leap y) 1 0
year_days_row y = year_days_lem y ∙ go (is_leap y)
  where
    go : (b : Bool) → cond b 366 365 ≡ 365 + cond b 1 0
    go true = refl
    go false = refl

pub months_twelve : (y : ℕ) → length (months y) ≡ 12
unfolding months
months_twelve y = go (is_leap y)
  where
    go : (b : Bool) → length (get_or month_table (cond b 1 0) []) ≡ 12
    go true = refl
    go false = refl

pub row_below : (b : Bool) → cond b 1 0 < 2
row_below true = lit< tt
row_below false = lit< tt

-- ---- the closed form: a leap year in four, none in a hundred, one in four hundred
quotient : (d k n : ℕ) → k * suc d ≤ n → n ≤ k * suc d + d → n / suc d ≡ k
quotient d k n low high = div-eq_of_lt-le (suc d) low (let e : n < (k + 1) * suc d = omega arith in e)

-- Of the numbers below y, (y + d) / (d + 1) are multiples of d + 1.
multiples_step : (d y : ℕ) (b : Bool) → eqb (y % suc d) 0 ≡ b → (suc y + d) / suc d ≡ (y + d) / suc d + cond b 1 0
multiples_step d y b e = go (y / suc d) (y % suc d) (div-add-mod' y (suc d)) (mod-lt y (omega arith)) b e
  where
    go : (k r : ℕ) → k * suc d + r ≡ y → r < suc d → (b : Bool) → eqb r 0 ≡ b → (suc y + d) / suc d ≡ (y + d) / suc d + cond b 1 0
    go k r sum below true e =
        let z = eqb-true r 0 e in
        omega (arith, quotient d k (y + d) (omega arith) (omega arith), quotient d (k + 1) (suc y + d) (omega arith) (omega arith))
    go k r sum below false e =
        let z : r ≡ 0 → ⊥ = eqb-false r 0 e in
        omega (arith, quotient d (k + 1) (y + d) (omega arith) (omega arith), quotient d (k + 1) (suc y + d) (omega arith) (omega arith))

divides : (a b y : ℕ) → y % (a * b) ≡ 0 → y % a ≡ 0
divides a b y e = sym (mod-mod_of_dvd a y (dvd-mul_right a b)) ∙ (ap (λ (x : ℕ). x % a) e ∙ zero-mod a)

leap_step : (y : ℕ) (a b c : Bool) → eqb (y % 4) 0 ≡ a → eqb (y % 100) 0 ≡ b → eqb (y % 400) 0 ≡ c
    → cond (a && (not b || c)) 366 365 + cond b 1 0 ≡ 365 + cond a 1 0 + cond c 1 0
leap_step y true true true p q r = refl
leap_step y true true false p q r = refl
leap_step y true false true p q r = absurd (eqb-false (y % 100) 0 q (divides 100 4 y (eqb-true (y % 400) 0 r)))
leap_step y true false false p q r = refl
leap_step y false true c p q r = absurd (eqb-false (y % 4) 0 p (divides 4 25 y (eqb-true (y % 100) 0 q)))
leap_step y false false true p q r = absurd (eqb-false (y % 100) 0 q (divides 100 4 y (eqb-true (y % 400) 0 r)))
leap_step y false false false p q r = refl

-- The days before year y: 365 a year, and one more for each leap year.
pub closed_form : (y : ℕ) → year_start y + (y + 99) / 100 ≡ 365 * y + (y + 3) / 4 + (y + 399) / 400
unfolding year_start
closed_form zero = refl
closed_form (suc y) =
    let e = closed_form y in
    let f = leap_step y _ _ _ refl refl refl in
    let a = multiples_step 3 y _ refl in
    let b = multiples_step 99 y _ refl in
    let c = multiples_step 399 y _ refl in
    let g = year_days_lem y in
    omega arith

-- The days of the years 0000 to 9999.
pub year_10000 : year_start 10000 ≡ 3652425
year_10000 = let e = closed_form 10000 in omega arith

-- ---- years in order
pub year_mono : (y z : ℕ) → y ≤ z → year_start y ≤ year_start z
unfolding year_start
year_mono y zero h = let e : y ≡ 0 = omega arith in omega (arith, ap year_start e)
year_mono y (suc z) h = go (dec_le y z) (λ k. year_mono y z k)
  where
    go : Dec (y ≤ z) → (y ≤ z → year_start y ≤ year_start z) → year_start y ≤ year_start (suc z)
    go (yes k) f = let e = f k in omega arith
    go (no k) f = let e : y ≡ suc z = omega arith in omega (arith, ap year_start e)

-- ---- the calendar repeats itself every 400 years, which are 146,097 days
pub leap_cycle : (y : ℕ) → is_leap (y + 400) ≡ is_leap y
leap_cycle y =
    let a : (y + 400) % 4 ≡ y % 4 = omega arith in
    let b : (y + 400) % 100 ≡ y % 100 = omega arith in
    let c : (y + 400) % 400 ≡ y % 400 = omega arith in
    rw (a, b, c)

pub months_cycle : (y : ℕ) → months (y + 400) ≡ months y
unfolding months
months_cycle y = ap (λ (b : Bool). get_or month_table (cond b 1 0) []) (leap_cycle y)

pub year_cycle : (y : ℕ) → year_start (y + 400) ≡ year_start y + 146097
year_cycle y =
    let a = closed_form y in
    let b = closed_form (y + 400) in
    let c : (y + 400 + 3) / 4 ≡ (y + 3) / 4 + 100 = omega arith in
    let d : (y + 400 + 99) / 100 ≡ (y + 99) / 100 + 4 = omega arith in
    let e : (y + 400 + 399) / 400 ≡ (y + 399) / 400 + 1 = omega arith in
    omega arith

-- ---- sums of a list's first numbers
sum_suc : (k : ℕ) (l : List ℕ) → sum_first (suc k) l ≡ sum_first k l + get_or l k 0
unfolding sum_first
sum_suc zero [] = refl
sum_suc zero (x ∷ l) = omega arith
sum_suc (suc k) [] = omega arith
sum_suc (suc k) (x ∷ l) = let e = sum_suc k l in omega arith

pub sum_step : (k : ℕ) (l : List ℕ) → sum_first (k + 1) l ≡ sum_first k l + get_or l k 0
sum_step k l = rw add-one (sum_suc k l)

-- The same for months, which count from 1.
pub sum_next : (m : ℕ) (l : List ℕ) → 1 ≤ m → sum_first (m + 1 - 1) l ≡ sum_first (m - 1) l + get_or l (m - 1) 0
sum_next m l h = ap (λ (k : ℕ). sum_first k l) (let e : m + 1 - 1 ≡ suc (m - 1) = omega arith in e) ∙ sum_suc (m - 1) l

-- A place within part j of a list is within the whole.
place_below : (l : List ℕ) (j a : ℕ) → a < get_or l j 0 → sum_first j l + a < sum_first (length l) l
unfolding sum_first
place_below [] zero a h = omega arith
place_below [] (suc j) a h = omega arith
place_below (x ∷ l) zero a h = omega arith
place_below (x ∷ l) (suc j) a h = let e = place_below l j a h in omega arith

-- A place is within one part only.
place_once : (l : List ℕ) (i j a b : ℕ) → a < get_or l i 0 → b < get_or l j 0 → sum_first i l + a ≡ sum_first j l + b → (i ≡ j) × (a ≡ b)
unfolding sum_first
place_once [] zero j a b h k e = absurd (omega arith)
place_once [] (suc i) j a b h k e = absurd (omega arith)
place_once (x ∷ l) zero zero a b h k e = (refl, omega arith)
place_once (x ∷ l) zero (suc j) a b h k e = absurd (omega arith)
place_once (x ∷ l) (suc i) zero a b h k e = absurd (omega arith)
place_once (x ∷ l) (suc i) (suc j) a b h k e =
    let f = place_once l i j a b h k (omega arith) in
    (ap suc f.0, f.1)

-- ---- the days of months
between : ℕ → ℕ → List ℕ → Bool
between low high [] = true
between low high (x ∷ l) = leb low x && (leb x high && between low high l)

between_high : (low high : ℕ) (l : List ℕ) → T (between low high l) → (i : ℕ) → get_or l i 0 ≤ high
unfolding between
between_high low high [] h i = omega arith
between_high low high (x ∷ l) h zero = leb→le x high (and_l (leb x high) _ (and_r (leb low x) _ h))
between_high low high (x ∷ l) h (suc i) = between_high low high l (and_r (leb x high) _ (and_r (leb low x) _ h)) i

between_low : (low high : ℕ) (l : List ℕ) → T (between low high l) → (i : ℕ) → i < length l → low ≤ get_or l i 0
unfolding between
between_low low high [] h i g = absurd (omega arith)
between_low low high (x ∷ l) h zero g = leb→le low x (and_l (leb low x) _ h)
between_low low high (x ∷ l) h (suc i) g = between_low low high l (and_r (leb x high) _ (and_r (leb low x) _ h)) i (omega arith)

pub table_bound : (k i : ℕ) → get_or (get_or month_table k []) i 0 ≤ 31
unfolding between
table_bound zero i = between_high 28 31 (get_or month_table 0 []) tt i
table_bound (suc zero) i = between_high 28 31 (get_or month_table 1 []) tt i
table_bound (suc (suc k)) i = omega arith

-- A month has 31 days at most, and each of the twelve 28 at least.
pub month_bound : (y m : ℕ) → month_days y m ≤ 31
unfolding months
month_bound y m = table_bound (cond (is_leap y) 1 0) (m - 1)

pub month_28 : (y m : ℕ) → 1 ≤ m → m ≤ 12 → 28 ≤ month_days y m
unfolding months between
month_28 y m h k = go (is_leap y)
  where
    go : (b : Bool) → 28 ≤ get_or (get_or month_table (cond b 1 0) []) (m - 1) 0
    go true = between_low 28 31 (get_or month_table 1 []) tt (m - 1) (omega arith)
    go false = between_low 28 31 (get_or month_table 0 []) tt (m - 1) (omega arith)

pub month_day : (y m : ℕ) → 1 ≤ m → m ≤ 12 → 1 ≤ month_days y m
month_day y m h k = let e = month_28 y m h k in omega arith

pub december : (y : ℕ) → month_days y 12 ≡ 31
unfolding months
december y = go (is_leap y)
  where
    go : (b : Bool) → get_or (get_or month_table (cond b 1 0) []) 11 0 ≡ 31
    go true = refl
    go false = refl

-- ---- a valid date, in parts
pub record Valid (w : Date) : Type 0 where
  pub month_low : 1 ≤ w.month
  pub month_high : w.month ≤ 12
  pub day_low : 1 ≤ w.day
  pub day_high : w.day ≤ month_days w.year w.month

pub valid_parts : (w : Date) → T (is_valid w) → Valid w
valid_parts w h =
    let h₁ = and_r (leb 1 w.month) _ h in
    let h₂ = and_r (leb w.month 12) _ h₁ in
    record {
      month_low = leb→le 1 w.month (and_l (leb 1 w.month) _ h);
      month_high = leb→le w.month 12 (and_l (leb w.month 12) _ h₁);
      day_low = leb→le 1 w.day (and_l (leb 1 w.day) _ h₂);
      day_high = leb→le w.day (month_days w.year w.month) (and_r (leb 1 w.day) _ h₂);
    }

pub parts_valid : (w : Date) → Valid w → T (is_valid w)
parts_valid w v =
    and_i (leb 1 w.month) _ (le→leb 1 w.month v.month_low)
    (and_i (leb w.month 12) _ (le→leb w.month 12 v.month_high)
    (and_i (leb 1 w.day) _ (le→leb 1 w.day v.day_low) (le→leb w.day (month_days w.year w.month) v.day_high)))

-- A valid date lies within its year.
pub day_in_year : (w : Date) → Valid w → (year_start w.year ≤ day_number w) × (day_number w < year_start (suc w.year))
unfolding year_start
day_in_year w v =
    let l = months w.year in
    let a = v.day_low in let b = v.day_high in
    let e = place_below l (w.month - 1) (w.day - 1) (omega arith) in
    let f : sum_first (length l) l ≡ year_days w.year = ap (λ (k : ℕ). sum_first k l) (months_twelve w.year) in
    (omega arith, omega arith)

pub same_parts : (v w : Date) → v.year ≡ w.year → v.month ≡ w.month → v.day ≡ w.day → v ≡ w
same_parts v w p q r i = date (p i) (q i) (r i)

-- Two valid dates with one day number are equal.
pub same_day : (v w : Date) → Valid v → Valid w → day_number v ≡ day_number w → v ≡ w
same_day v w p q e = go (dec_lt v.year w.year) (dec_lt w.year v.year)
  where
    go : Dec (v.year < w.year) → Dec (w.year < v.year) → v ≡ w
    go (yes h) k = absurd (let a = day_in_year v p in let b = day_in_year w q in let c = year_mono (suc v.year) w.year h in omega arith)
    go (no h) (yes k) = absurd (let a = day_in_year v p in let b = day_in_year w q in let c = year_mono (suc w.year) v.year k in omega arith)
    go (no h) (no k) =
        let y : v.year ≡ w.year = omega arith in
        let a = p.day_low in let b = p.day_high in let c = q.day_low in let d = q.day_high in let m = p.month_low in let m' = q.month_low in
        let l = months v.year in
        let d' : w.day - 1 < get_or l (w.month - 1) 0 = rw y (omega arith) in
        let e' : sum_first (v.month - 1) l + (v.day - 1) ≡ sum_first (w.month - 1) l + (w.day - 1) =
        omega (arith, e, ap year_start y, ap (λ (k : ℕ). sum_first (w.month - 1) (months k)) y) in
        let f = place_once l (v.month - 1) (w.month - 1) (v.day - 1) (w.day - 1) (omega arith) d' e' in
        same_parts v w y (omega arith) (omega arith)

-- ---- the date of a day
-- What counting months off gives: l are the months of year y from m on, and n the days to count.
record Counted (y : ℕ) (l : List ℕ) (m n : ℕ) (w : Date) : Type 0 where
  year_is : w.year ≡ y
  month_low : m ≤ w.month
  month_high : w.month < m + length l
  day_low : 1 ≤ w.day
  day_high : w.day ≤ get_or l (w.month - m) 0
  sum : sum_first (w.month - m) l + (w.day - 1) ≡ n

count_months_lem : (y : ℕ) (l : List ℕ) (m n : ℕ) → n < sum_first (length l) l → Counted y l m n (count_months y l m n)
unfolding sum_first
count_months_lem y [] m n h = absurd (omega arith)
count_months_lem y (x ∷ l) m n h = go (ltb n x) refl (λ k. count_months_lem y l (suc m) (n - x) k)
  where
    here : ltb n x ≡ true → Counted y (x ∷ l) m n (date y m (suc n))
    here e =
        let z : m - m ≡ 0 = omega arith in
        record {
          year_is = refl;
          month_low = le_refl m;
          month_high = omega arith;
          day_low = omega arith;
          day_high = rw z (ltb-true n x e);
          sum = rw z (omega arith);
        }

    there : (w : Date) → ltb n x ≡ false → Counted y l (suc m) (n - x) w → Counted y (x ∷ l) m n w
    there w e r =
        let a = r.month_low in let b = r.month_high in let s = r.sum in
        let z : w.month - m ≡ suc (w.month - suc m) = omega arith in
        record {
          year_is = r.year_is;
          month_low = omega arith;
          month_high = omega arith;
          day_low = r.day_low;
          day_high = rw z r.day_high;
          sum = rw z (omega (arith, ltb-false n x e));
        }

    go : (b : Bool) → ltb n x ≡ b → (n - x < sum_first (length l) l → Counted y l (suc m) (n - x) (count_months y l (suc m) (n - x)))
        → Counted y (x ∷ l) m n (cond b (date y m (suc n)) (count_months y l (suc m) (n - x)))
    go true e f = here e
    go false e f = there (count_months y l (suc m) (n - x)) e (f (omega (arith, ltb-false n x e)))

-- A valid date with day number n.
pub record DateOf (n : ℕ) (w : Date) : Type 0 where
  pub good : Valid w
  pub counts : day_number w ≡ n

-- Day n of a year.
pub in_year : (y n : ℕ) → n < year_days y → DateOf (year_start y + n) (count_months y (months y) 1 n)
in_year y n h = go (count_months y (months y) 1 n) (count_months_lem y (months y) 1 n (rw (months_twelve y) h))
  where
    go : (w : Date) → Counted y (months y) 1 n w → DateOf (year_start y + n) w
    go w r =
        let a = r.month_low in let b = r.month_high in let t = months_twelve y in let s = r.sum in
        record {
          good = record { month_low = r.month_low; month_high = omega arith; day_low = r.day_low; day_high = rw r.year_is r.day_high };
          counts = rw r.year_is (omega arith);
        }

count_years_lem : (k y n : ℕ) → n < k → DateOf (year_start y + n) (count_years k y n)
unfolding year_start
count_years_lem zero y n h = absurd (omega arith)
count_years_lem (suc k) y n h = go (ltb n (year_days y)) refl (λ e. count_years_lem k (suc y) (n - year_days y) e)
  where
    go : (b : Bool) → ltb n (year_days y) ≡ b
        → (n - year_days y < k → DateOf (year_start (suc y) + (n - year_days y)) (count_years k (suc y) (n - year_days y)))
        → DateOf (year_start y + n) (cond b (count_months y (months y) 1 n) (count_years k (suc y) (n - year_days y)))
    go true e f = in_year y n (ltb-true n (year_days y) e)
    go false e f =
        subst (λ (z : ℕ). DateOf z (count_years k (suc y) (n - year_days y))) (omega (arith, ltb-false n (year_days y) e))
        (f (omega (arith, year_days_row y, ltb-false n (year_days y) e)))

-- Each day has a valid date that counts back to it,
pub date_of_day_lem : (n : ℕ) → DateOf n (date_of_day n)
unfolding date_of_day year_start
date_of_day_lem n = subst (λ (z : ℕ). DateOf z (count_years (suc n) 0 n)) (omega arith) (count_years_lem (suc n) 0 n (omega arith))

-- and only one.
pub the_date : (n : ℕ) (w : Date) → Valid w → day_number w ≡ n → w ≡ date_of_day n
the_date n w v e = let r = date_of_day_lem n in same_day w (date_of_day n) v r.good (e ∙ sym r.counts)

-- ---- steps of a count by months, as code takes them
-- A month's place in its year and a day's in its month are a date.
pub date_at_lem : (y n m d : ℕ) → 1 ≤ m → m ≤ 12 → 1 ≤ d → d ≤ month_days y m → sum_first (m - 1) (months y) + (d - 1) ≡ n → date y m d ≡ date_of_day (year_start y + n)
date_at_lem y n m d a b c e f = the_date (year_start y + n) (date y m d) (record { month_low = a; month_high = b; day_low = c; day_high = e }) (omega arith)

-- A day of the year that is past month m leaves a month after m.
pub next_month : (m n : ℕ) (l : List ℕ) → m ≤ 12 → sum_first (m + 1 - 1) l ≤ n → n < sum_first 12 l → m + 1 ≤ 12
next_month m n l a b c = go (dec_le (m + 1) 12)
  where
    go : Dec (m + 1 ≤ 12) → m + 1 ≤ 12
    go (yes h) = h
    go (no h) = absurd (let e : m + 1 - 1 ≡ 12 = omega arith in omega (arith, ap (λ (k : ℕ). sum_first k l) e))

-- ---- the years 0000 to 9999
-- The date of a day of those years, and its bounds.
pub record Dated (n : ℕ) (w : Date) : Type 0 where
  pub is : w ≡ date_of_day n
  pub year_high : w.year ≤ 9999
  pub month_low : 1 ≤ w.month
  pub month_high : w.month ≤ 12
  pub day_low : 1 ≤ w.day
  pub day_high : w.day ≤ 31

dated_of : (n : ℕ) (w : Date) → n ≤ 3652424 → DateOf n w → w ≡ date_of_day n → Dated n w
dated_of n w h r e =
    let v = r.good in
    record {
      is = e;
      year_high = go (dec_le w.year 9999);
      month_low = v.month_low;
      month_high = v.month_high;
      day_low = v.day_low;
      day_high = (let a = v.day_high in let b = month_bound w.year w.month in omega arith);
    }
  where
    go : Dec (w.year ≤ 9999) → w.year ≤ 9999
    go (yes g) = g
    go (no g) = absurd (let a = day_in_year w r.good in let b = year_mono 10000 w.year (omega arith) in let c = r.counts in omega (arith, year_10000))

pub dated : (n : ℕ) (w : Date) → n ≤ 3652424 → w ≡ date_of_day n → Dated n w
dated n w h e = dated_of n w h (subst (λ (v : Date). DateOf n v) (sym e) (date_of_day_lem n)) e

-- And back: a valid date of those years has such a day number.
pub day_bound : (w : Date) → Valid w → w.year ≤ 9999 → day_number w ≤ 3652424
day_bound w v h =
    let a = day_in_year w v in
    let b = year_mono (suc w.year) 10000 (omega arith) in
    omega (arith, year_10000)

-- ---- in plain terms: the first day is 0000-01-01, and each day is followed by the day after it
-- The next day of the month, or the first of the next month, or the first of the next year.
abbrev pub day_after : Date → Date
day_after w =
    cond (ltb w.day (month_days w.year w.month)) (date w.year w.month (suc w.day))
    (cond (ltb w.month 12) (date w.year (suc w.month) 1)
    (date (suc w.year) 1 1))

none_before : (y : ℕ) → sum_first 0 (months y) ≡ 0
unfolding sum_first
none_before y = refl

pub day_after_lem : (w : Date) → Valid w → DateOf (suc (day_number w)) (day_after w)
unfolding year_start
day_after_lem w v = go (ltb w.day (month_days w.year w.month)) refl (ltb w.month 12) refl
  where
    go : (a : Bool) → ltb w.day (month_days w.year w.month) ≡ a → (b : Bool) → ltb w.month 12 ≡ b
        → DateOf (suc (day_number w)) (cond a (date w.year w.month (suc w.day)) (cond b (date w.year (suc w.month) 1) (date (suc w.year) 1 1)))
    go true e b f =
        let h = ltb-true w.day (month_days w.year w.month) e in
        let d = v.day_low in
        record {
          good = record { month_low = v.month_low; month_high = v.month_high; day_low = omega arith; day_high = h };
          counts = omega arith;
        }
    go false e true f =
        let h = ltb-false w.day (month_days w.year w.month) e in
        let g = ltb-true w.month 12 f in
        let d = v.day_low in let d' = v.day_high in let m = v.month_low in
        let s = sum_next w.month (months w.year) m in
        let x : w.month + 1 - 1 ≡ suc w.month - 1 = omega arith in
        let y = ap (λ (k : ℕ). sum_first k (months w.year)) x in
        record {
          good = record { month_low = omega arith; month_high = g; day_low = lit≤ tt; day_high = month_day w.year (suc w.month) (omega arith) g };
          counts = omega arith;
        }
    go false e false f =
        let h = ltb-false w.day (month_days w.year w.month) e in
        let g = ltb-false w.month 12 f in
        let d = v.day_low in let d' = v.day_high in let m = v.month_low in let m' = v.month_high in
        let s = sum_next w.month (months w.year) m in
        let x : w.month + 1 - 1 ≡ 12 = omega arith in
        let y = ap (λ (k : ℕ). sum_first k (months w.year)) x in
        let z = none_before (suc w.year) in
        record {
          good = record { month_low = lit≤ tt; month_high = lit≤ tt; day_low = lit≤ tt; day_high = month_day (suc w.year) 1 (lit≤ tt) (lit≤ tt) };
          counts = omega arith;
        }

pub first_day : date_of_day 0 ≡ date 0 1 1
unfolding date_of_day months sum_first
first_day = refl

pub next_day : (n : ℕ) → date_of_day (suc n) ≡ day_after (date_of_day n)
next_day n =
    let r = date_of_day_lem n in
    let a = day_after_lem (date_of_day n) r.good in
    sym (the_date (suc n) (day_after (date_of_day n)) a.good (a.counts ∙ ap suc r.counts))
