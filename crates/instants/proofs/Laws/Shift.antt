-- Shift: where a shift by months or years leads to, in plain terms, and when it is out of range.
use Rattle.std.specs.Prelude.{◌≡◌, refl, Bool, true, false, cond, [], ◌↔◌, ℕ, zero, suc, ◌+◌, ◌*◌, ◌-◌, ◌/◌, ◌%◌, ◌≤◌, ◌<◌, T, ℤ, pos, negsuc, ◌+ℤ◌, ◌*ℤ◌, neg_ℤ, nat_abs, get_or}
use Rattle.std.proofs.Math.Path.{sym}
use Rattle.std.proofs.Common.{◌∙◌, ap, arith, le-ltb, lt-ltb, lit≤}
use Rattle.std.proofs.Math.Decide.{dec_le, dec_lt, ℕ_discrete}
use Rattle.std.proofs.Math.IntN.{pos-ne-negsuc, +ℤ_comm}
use Rattle.model.specs.Calendar.{date, day_number, is_leap, month_days, month_table, months, sum_first, year_start}
use Rattle.model.specs.Instant.{from_year0, in_range, ms_per_day, ranged, since_year0}
use Rattle.model.specs.declared.refusal.Fault.TheVariants.{OutOfRange}
use Rattle.model.specs.Result.{ok, refuse}
use Rattle.model.specs.Shift.{after, month_first, month_number, month_start, shift}
use Rattle.model.proofs.Laws.Calendar.{Dated, Valid, dated, date_of_day_lem, day_bound, december, month_28, month_day, sum_step, year_10000, year_mono}
use Rattle.model.proofs.Laws.DateText.{from_in_range, ranged_ok, since_bound}
use Rattle.model.proofs.Laws.DayCount.{date_again}
use Rattle.model.proofs.Laws.Shift.{date_of, instant_of, month_first_lem, month_next, shift_year, time_of}
use Rattle.model.specs.declared.Date.{Date}
use Rattle.model.specs.declared.TimeUnit.{TimeUnit}
use Rattle.model.specs.declared.TimeUnit.TheVariants.{Year, Month}
use Rattle.model.proofs.Laws.Logic.{clash}
use Rattle.calendar.specs.Contract.{shifted}
use Rattle.instants.specs.Inner.{in_month, month_of}
use Rattle.calendar.proofs.Laws.Answer.{own_in, year_months}
use Rattle.calendar.proofs.Laws.Instant.{from_early, from_late, minus, minus_below, since_from}

-- ---- the first of a month
no_months : month_start 0 ≡ 0
unfolding year_start sum_first
no_months = refl

cycle_start : (c : ℕ) → month_start (4800 * c) ≡ 146097 * c
cycle_start c =
    let a : 4800 * c / 4800 ≡ c = omega arith in
    let b : 4800 * c % 4800 ≡ 0 = omega arith in
    sym (month_first_lem (4800 * c)) ∙ rw (a, b) (omega (arith, no_months))

-- Every month of c cycles of 400 years starts 31 days or more before their end, as the last one is a December.
month_ends : (c d j : ℕ) → suc j + d ≡ 4800 * c → month_start j + 31 ≤ 146097 * c
month_ends c zero j e =
    let a : suc (j % 12) ≡ 12 = omega arith in
    let f : suc j ≡ 4800 * c = omega arith in
    omega (arith, month_next j, ap (month_days (j / 12)) a, december (j / 12), ap month_start f, cycle_start c)
month_ends c (suc d) j e =
    let h = month_ends c d (suc j) (omega arith) in
    omega (arith, month_next j)

-- ---- the days and the time of day from there
module _ (days time : ℕ) (days-high : days ≤ 30) (time-high : time < 86400000) where
  after_early : (n : ℕ) → 30 ≤ n → after days time (negsuc n) ≡ refuse OutOfRange
  after_early n h =
      let ms = suc (n - days) * 86400000 in
      let e : negsuc n +ℤ pos days ≡ negsuc (n - days) = minus_below days (suc n) (omega arith) ∙ ap negsuc (omega arith) in
      let f : neg_ℤ (pos ms) +ℤ pos time ≡ negsuc (ms - suc time) = +ℤ_comm (neg_ℤ (pos ms)) (pos time) ∙ minus_below time ms (omega arith) in
      rw (e, f) (from_early (ms - suc time))

  -- Days past the end of a month outside the range do not lead back into it.
  pub in_month_lem : (z : ℤ) → in_month (month_of z) days time ≡ after days time (month_first z)
  in_month_lem (pos k) = go (dec_lt k 120000)
    where
      go : Dec (k < 120000) → in_month (month_of (pos k)) days time ≡ after days time (month_first (pos k))
      go (yes h) = rw (month_first_lem k, lt-ltb k 120000 h, lt-ltb k 120000 h)
      go (no h) =
          let a = year_mono 10000 (k / 12) (omega arith) in
          rw (month_first_lem k, le-ltb k 120000 (omega arith))
          (sym (from_late ((month_start k + days) * 86400000 + time) (omega (arith, year_10000))))
  in_month_lem (negsuc k) =
      let c = k / 4800 + 1 in
      let j = 4800 * c - suc k in
      let h = month_ends c (4800 * c - suc j) j (omega arith) in
      rw (minus_below (month_start j) (146097 * c) (omega arith))
      (sym (after_early (146097 * c - suc (month_start j)) (omega arith)))

-- ---- where a shift leads to
-- The shift is not refused, and gives an instant of the date w, at the time of day of t.
pub record Lands (t a : ℤ) (u : TimeUnit) (w : Date) : Type 0 where
  pub to : ℤ
  pub done : shifted t a u ≡ ok to
  pub date_is : date_of to ≡ w
  pub time_is : time_of to ≡ time_of t

lands : (t a : ℤ) (u : TimeUnit) (w : Date) (day : ℕ) → Valid w → w.year ≤ 9999 → day ≡ day_number w
    → shifted t a u ≡ ranged (from_year0 (day * ms_per_day + time_of t))
    → Lands t a u w
lands t a u w day v h e f =
    let n = day * ms_per_day + time_of t in
    let b = day_bound w v h in
    let s = since_from n in
    let d : since_year0 (from_year0 n) / ms_per_day ≡ day_number w = rw s (omega arith) in
    record {
      to = from_year0 n;
      done = f ∙ ranged_ok (from_year0 n) (from_in_range n (omega arith));
      date_is = rw d (date_again w v);
      time_is = rw s (omega arith);
    }

not_refused : {t a : ℤ} {u : TimeUnit} {w : Date} → Lands t a u w → ¬ (shifted t a u ≡ refuse OutOfRange)
not_refused l e = let f = l.done in clash cc

-- The date of an instant in range, with its bounds.
own_date : (t : ℤ) → T (in_range t) → Dated (since_year0 t / ms_per_day) (date_of t)
own_date t h = let b = since_bound t h in dated (since_year0 t / ms_per_day) (date_of t) (omega arith) refl

-- ---- months
-- The month that a shift by months leads to, counted from 0000-01.
abbrev pub month_to : ℤ → ℤ → ℤ
month_to t a = pos (month_number (date_of t)) +ℤ a

module _ (t a : ℤ) (in_range_lem : T (in_range t)) where
  shifted_month : shifted t a Month ≡ in_month (month_of (month_to t a)) ((date_of t).day - 1) (time_of t)
  unfolding shift
  shifted_month =
      let h = (own_date t in_range_lem).day_high in
      own_in t a Month in_range_lem ∙ sym (in_month_lem ((date_of t).day - 1) (time_of t) (omega arith) (omega arith) (month_to t a))

  shifted_in : (k : ℕ) → month_to t a ≡ pos k → k < 120000 → shifted t a Month ≡ ranged (from_year0 ((month_start k + ((date_of t).day - 1)) * ms_per_day + time_of t))
  shifted_in k e h = shifted_month ∙ rw (e, lt-ltb k 120000 h, lt-ltb k 120000 h)

  -- The day of the month is kept,
  pub month_kept :
      (k : ℕ)
      → month_to t a ≡ pos k
      → k < 120000
      → (date_of t).day ≤ month_days (k / 12) (suc (k % 12))
      → Lands t a Month (date (k / 12) (suc (k % 12)) (date_of t).day)
  month_kept k e h g =
      let low = (own_date t in_range_lem).day_low in
      lands t a Month (date (k / 12) (suc (k % 12)) (date_of t).day) _
      (record { month_low = omega arith; month_high = omega arith; day_low = low; day_high = g })
      (omega arith) (omega arith) (shifted_in k e h)

  -- and days past the month's end run on into the next; in December there are none.
  pub month_runs_on :
      (k : ℕ)
      → month_to t a ≡ pos k
      → k < 120000
      → month_days (k / 12) (suc (k % 12)) < (date_of t).day
      → Lands t a Month (date (suc k / 12) (suc (suc k % 12)) ((date_of t).day - month_days (k / 12) (suc (k % 12))))
  month_runs_on k e h g =
      let high = (own_date t in_range_lem).day_high in
      let b = month_28 (k / 12) (suc (k % 12)) (omega arith) (omega arith) in
      let c = month_28 (suc k / 12) (suc (suc k % 12)) (omega arith) (omega arith) in
      lands t a Month (date (suc k / 12) (suc (suc k % 12)) ((date_of t).day - month_days (k / 12) (suc (k % 12)))) _
      (record { month_low = omega arith; month_high = omega arith; day_low = omega arith; day_high = omega arith })
      (year (dec_lt (k % 12) 11)) (omega (arith, month_next k)) (shifted_in k e h)
    where
      year : Dec (k % 12 < 11) → suc k / 12 ≤ 9999
      year (yes j) = omega arith
      year (no j) =
          let high = (own_date t in_range_lem).day_high in
          let f : suc (k % 12) ≡ 12 = omega arith in
          absurd (omega (arith, december (k / 12), ap (month_days (k / 12)) f))

  -- It is out of range exactly where the month is.
  pub month_out : (shifted t a Month ≡ refuse OutOfRange) ↔ (¬ ((k : ℕ) × (month_to t a ≡ pos k) × (k < 120000)))
  month_out = ((λ e p. inside p.0 p.1 p.2 e), outside (month_to t a) refl)
    where
      inside : (k : ℕ) → month_to t a ≡ pos k → k < 120000 → ¬ (shifted t a Month ≡ refuse OutOfRange)
      inside k e h = go (dec_le (date_of t).day (month_days (k / 12) (suc (k % 12))))
        where
          go : Dec ((date_of t).day ≤ month_days (k / 12) (suc (k % 12))) → ¬ (shifted t a Month ≡ refuse OutOfRange)
          go (yes g) = not_refused (month_kept k e h g)
          go (no g) = not_refused (month_runs_on k e h (omega arith))

      outside : (z : ℤ) → month_to t a ≡ z → ¬ ((k : ℕ) × (month_to t a ≡ pos k) × (k < 120000)) → shifted t a Month ≡ refuse OutOfRange
      outside (pos k) e f = shifted_month ∙ rw (e, le-ltb k 120000 (late (dec_lt k 120000)))
        where
          late : Dec (k < 120000) → 120000 ≤ k
          late (yes h) = absurd (f (k, e, h))
          late (no h) = omega arith
      outside (negsuc k) e f = shifted_month ∙ rw e

-- ---- years
-- The two rows of the month table differ in February only.
other_months : (y z i : ℕ) → ¬ (i ≡ 1) → get_or (months y) i 0 ≡ get_or (months z) i 0
unfolding months
other_months y z i h = go (is_leap y) (is_leap z) i h
  where
    go : (b c : Bool) (i : ℕ) → ¬ (i ≡ 1) → get_or (get_or month_table (cond b 1 0) []) i 0 ≡ get_or (get_or month_table (cond c 1 0) []) i 0
    go true true i h = refl
    go false false i h = refl
    go true false zero h = refl
    go true false (suc zero) h = absurd (h refl)
    go true false (suc (suc i)) h = refl
    go false true zero h = refl
    go false true (suc zero) h = absurd (h refl)
    go false true (suc (suc i)) h = refl

february : (y : ℕ) → month_days y 2 ≤ 29
unfolding months
february y = go (is_leap y)
  where
    go : (b : Bool) → get_or (get_or month_table (cond b 1 0) []) 1 0 ≤ 29
    go true = lit≤ tt
    go false = lit≤ tt

-- The year that a shift by 12 * a months leads to.
years_of_months : (x m k : ℕ) (a : ℤ) → m ≤ 11 → pos (x * 12 + m) +ℤ a *ℤ pos 12 ≡ pos k → pos x +ℤ a ≡ pos (k / 12)
years_of_months x m k (pos n) h e = let f : x * 12 + m + n * 12 ≡ k = ap nat_abs e in ap pos (omega arith)
years_of_months x m k (negsuc n) h e = go (dec_lt x (suc n))
  where
    go : Dec (x < suc n) → pos x +ℤ negsuc n ≡ pos (k / 12)
    go (yes g) = absurd (pos-ne-negsuc k _ (sym e ∙ minus_below (x * 12 + m) (suc n * 12) (omega arith)))
    go (no g) =
        let f : x * 12 + m - suc n * 12 ≡ k = ap nat_abs (sym (minus (x * 12 + m) (suc n * 12) (omega arith)) ∙ e) in
        minus x (suc n) (omega arith) ∙ ap pos (omega arith)

module _ (t a : ℤ) (in_range_lem : T (in_range t)) where
  shifted_year : (y : ℕ) → pos (date_of t).year +ℤ a ≡ pos y → shifted t a Year ≡ instant_of (date y (date_of t).month (date_of t).day) (time_of t)
  shifted_year y e = own_in t a Year in_range_lem ∙ shift_year t a y e

  -- The month and its day are kept where the year has that day;
  pub year_kept :
      (y : ℕ)
      → pos (date_of t).year +ℤ a ≡ pos y
      → y ≤ 9999
      → (date_of t).day ≤ month_days y (date_of t).month
      → Lands t a Year (date y (date_of t).month (date_of t).day)
  year_kept y e h g =
      let d = own_date t in_range_lem in
      lands t a Year (date y (date_of t).month (date_of t).day) _
      (record { month_low = d.month_low; month_high = d.month_high; day_low = d.day_low; day_high = g })
      h refl (shifted_year y e)

  -- the only other day is 29 February, which runs on to 1 March.
  pub year_runs_on :
      (y : ℕ)
      → pos (date_of t).year +ℤ a ≡ pos y
      → y ≤ 9999
      → month_days y (date_of t).month < (date_of t).day
      → ((date_of t).month ≡ 2) × ((date_of t).day ≡ 29) × Lands t a Year (date y 3 1)
  year_runs_on y e h g =
      let n = in_february (ℕ_discrete (date_of t).month 2) in
      let f = ap (month_days y) n in
      let f' = ap (month_days (date_of t).year) n in
      let s = ap (λ (m : ℕ). sum_first (m - 1) (months y)) n in
      let d : (date_of t).day ≡ 29 = omega (arith, day_high, february (date_of t).year, month_28 y 2 (lit≤ tt) (lit≤ tt)) in (
        n,
        d,
        lands t a Year (date y 3 1) _
            (record { month_low = lit≤ tt; month_high = lit≤ tt; day_low = lit≤ tt; day_high = month_day y 3 (lit≤ tt) (lit≤ tt) })
            h (omega (arith, month_28 y 2 (lit≤ tt) (lit≤ tt), sum_step 1 (months y))) (shifted_year y e),
      )
    where
      day_high : (date_of t).day ≤ month_days (date_of t).year (date_of t).month
      day_high = (date_of_day_lem (since_year0 t / ms_per_day)).good.day_high

      in_february : Dec ((date_of t).month ≡ 2) → (date_of t).month ≡ 2
      in_february (yes f) = f
      in_february (no f) = absurd (omega (arith, day_high, other_months y (date_of t).year ((date_of t).month - 1) (λ k. f (omega arith))))

  -- It is out of range exactly where the year is.
  pub year_out : (shifted t a Year ≡ refuse OutOfRange) ↔ (¬ ((y : ℕ) × (pos (date_of t).year +ℤ a ≡ pos y) × (y ≤ 9999)))
  year_out = ((λ e p. inside p.0 p.1 p.2 e), outside)
    where
      inside : (y : ℕ) → pos (date_of t).year +ℤ a ≡ pos y → y ≤ 9999 → ¬ (shifted t a Year ≡ refuse OutOfRange)
      inside y e h = go (dec_le (date_of t).day (month_days y (date_of t).month))
        where
          go : Dec ((date_of t).day ≤ month_days y (date_of t).month) → ¬ (shifted t a Year ≡ refuse OutOfRange)
          go (yes g) = not_refused (year_kept y e h g)
          go (no g) = not_refused (year_runs_on y e h (omega arith)).2

      outside : ¬ ((y : ℕ) × (pos (date_of t).year +ℤ a ≡ pos y) × (y ≤ 9999)) → shifted t a Year ≡ refuse OutOfRange
      outside f =
          let high = (own_date t in_range_lem).month_high in
          sym (year_months t a)
          ∙ (month_out t (a *ℤ pos 12) in_range_lem).1
          (λ p. let h = p.2 in f (p.0 / 12, years_of_months (date_of t).year ((date_of t).month - 1) p.0 a (omega arith) p.1, omega arith))
