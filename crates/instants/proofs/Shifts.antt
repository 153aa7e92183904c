-- Shifts: milliseconds from 0000-01-01 and months from 0000-01, moved.
use mathlib.Core.Path.{◌≡◌, refl, sym, ◌∙◌, ap}
use mathlib.Core.Bool.{Bool, true, false}
use Prim.Native.Nat.{ℕ, suc, ◌*◌, ◌-◌, ◌/◌, ◌%◌, ◌≤◌, ◌<◌}
use native.Mathlib.Omega.{arith}
use borrow.Author.Tests.{le-ltb, lt-ltb}
use lib.Dec.{T}
use lib.IntN.{ℤ, pos, negsuc, ◌+ℤ◌, ◌*ℤ◌}
use mir.Facts.{to_z-of_z}
use mir.Syntax.{w64}
use mir.Val.{SFits, of_z, to_z}
use Rattle.model.specs.Instant.{earliest, from_year0, in_range, ms_per_day, ms_per_hour, ranged, since_year0}
use Rattle.model.specs.declared.refusal.Fault.TheVariants.{OutOfRange}
use Rattle.model.specs.Result.{Result, ok, refuse, provided, ◌>>=◌}
use Rattle.model.specs.Shift.{after, month_first, month_number, moved_by_months, shift, shift_months}
use Rattle.model.proofs.Laws.Calendar.{Dated}
use Rattle.model.proofs.Laws.DateText.{ranged_ok, since_back, since_bound}
use Rattle.model.proofs.Laws.Logic.{true→t, clash}
use Rattle.model.specs.declared.Date.{Date}
use Rattle.model.specs.declared.TimeUnit.{TimeUnit}
use Rattle.model.specs.declared.TimeUnit.TheVariants.{Year, Month, Day, Hour}
use Rattle.calendar.specs.Contract.{shifted}
use Rattle.std.proofs.Math.Decide.{dec_lt}
use Rattle.instants.specs.Inner.{Far, in_month, month_of}
use Rattle.calendar.proofs.Laws.Instant.{from_early, from_late, moved}
use Rattle.instants.proofs.Laws.Shift.{in_month_lem}

-- ---- milliseconds, moved
module _ (u : ℕ) (x : ℤ) where
  -- Moving the instant is moving its milliseconds from 0000-01-01.
  moved_same : from_year0 u +ℤ x ≡ pos u +ℤ x +ℤ earliest
  moved_same = moved u x

  pub time_far : Far (pos u +ℤ x) → refuse OutOfRange ≡ ranged (from_year0 u +ℤ x)
  time_far h = sym (ap ranged moved_same ∙ out (pos u +ℤ x) h)
    where
      out : (z : ℤ) → Far z → ranged (z +ℤ earliest) ≡ refuse OutOfRange
      out (pos n) h = from_late n h
      out (negsuc n) h = from_early n

  pub time_near : (n : ℕ) → pos u +ℤ x ≡ pos n → ranged (from_year0 n) ≡ ranged (from_year0 u +ℤ x)
  time_near n e = sym (ap ranged (moved_same ∙ ap (λ (z : ℤ). z +ℤ earliest) e))

-- ---- months, moved
months_moved : (since : ℕ) (w : Date) (amount : ℤ) → Dated (since / ms_per_day) w
    → in_month (month_of (pos (month_number w) +ℤ amount)) (w.day - 1) (since % ms_per_day) ≡ moved_by_months since amount
months_moved since w amount d =
    let h = d.day_high in
    in_month_lem (w.day - 1) (since % ms_per_day) (omega arith) (omega arith) (pos (month_number w) +ℤ amount)
    ∙ ap (λ (v : Date). after (v.day - 1) (since % ms_per_day) (month_first (pos (month_number v) +ℤ amount))) d.is

module _ (since : ℕ) (w : Date) (amount : ℤ) (d : Dated (since / ms_per_day) w) where
  pub months_far : Far (pos (month_number w) +ℤ amount) → refuse OutOfRange ≡ moved_by_months since amount
  months_far h = out (pos (month_number w) +ℤ amount) h ∙ months_moved since w amount d
    where
      out : (z : ℤ) → Far z → refuse OutOfRange ≡ in_month (month_of z) (w.day - 1) (since % ms_per_day)
      out (pos n) h = rw (le-ltb n 120000 (omega arith)) refl
      out (negsuc n) h = refl

  pub months_near : (k : ℕ) → pos (month_number w) +ℤ amount ≡ pos k → in_month k (w.day - 1) (since % ms_per_day) ≡ moved_by_months since amount
  months_near k e =
      same (dec_lt k 120000)
      ∙ ap (λ (z : ℤ). in_month (month_of z) (w.day - 1) (since % ms_per_day)) (sym e)
      ∙ months_moved since w amount d
    where
      same : Dec (k < 120000) → in_month k (w.day - 1) (since % ms_per_day) ≡ in_month (month_of (pos k)) (w.day - 1) (since % ms_per_day)
      same (yes h) = rw (lt-ltb k 120000 h, lt-ltb k 120000 h) refl
      same (no h) = rw (le-ltb k 120000 (omega arith)) refl

-- ---- an instant, shifted
-- An instant in range and its milliseconds from 0000-01-01.
record Own (t : ℤ) (since : ℕ) : Type 0 where
  pub in_range_lem : T (in_range t)
  pub since_is : since ≡ since_year0 t
  pub since_high : since ≤ 315569519999999

own_of : (t own : ℤ) (since : ℕ) → ok own ≡ ranged t → since ≡ since_year0 own → Own t since
own_of t own since e f = go (in_range t) refl e
  where
    go : (b : Bool) → in_range t ≡ b → ok own ≡ provided b OutOfRange (ok t) → Own t since
    go true g e =
        let h = true→t (in_range t) g in
        let i : own ≡ t = cc in
        let j : since ≡ since_year0 t = f ∙ ap since_year0 i in
        record { in_range_lem = h; since_is = j; since_high = omega (arith, since_bound t h) }
    go false g e = clash cc

times_one : (a : ℤ) → a *ℤ pos 1 ≡ a
times_one (pos n) = ap pos (omega arith)
times_one (negsuc n) = rw (let e : suc n * 1 ≡ suc n = omega arith in e)

-- What the code computes, by the unit.
abbrev pub shifted_since : ℕ → ℤ → TimeUnit → Result ℤ
shifted_since since amount Year = moved_by_months since (amount *ℤ pos 12)
shifted_since since amount Month = moved_by_months since (amount *ℤ pos 1)
shifted_since since amount Day = ranged (from_year0 since +ℤ amount *ℤ pos ms_per_day)
shifted_since since amount Hour = ranged (from_year0 since +ℤ amount *ℤ pos ms_per_hour)

module _ (t : ℤ) (since : ℕ) (own : Own t since) (amount : ℤ) where
  inside : (unit : TimeUnit) → shift t amount unit ≡ shifted t amount unit
  inside unit = ap (λ (r : Result ℤ). r >>= λ x. shift x amount unit) (sym (ranged_ok t own.in_range_lem))

  months_is : (a : ℤ) → moved_by_months since a ≡ shift_months t a
  months_is a = ap (λ (u : ℕ). moved_by_months u a) own.since_is

  time_is : (unit : ℕ) → ranged (from_year0 since +ℤ amount *ℤ pos unit) ≡ ranged (t +ℤ amount *ℤ pos unit)
  time_is unit = ap (λ (z : ℤ). ranged (z +ℤ amount *ℤ pos unit)) (ap from_year0 own.since_is ∙ since_back t own.in_range_lem)

  shifted_is : (unit : TimeUnit) → shifted_since since amount unit ≡ shifted t amount unit
  unfolding shift
  shifted_is Year = months_is (amount *ℤ pos 12) ∙ inside Year
  shifted_is Month = ap (moved_by_months since) (times_one amount) ∙ (months_is amount ∙ inside Month)
  shifted_is Day = time_is ms_per_day ∙ inside Day
  shifted_is Hour = time_is ms_per_hour ∙ inside Hour

-- An instant t that is in range, as the machine reads it and makes it again.
pub shifted_own : {t m own : ℤ} {since : ℕ} → SFits w64 m → m ≡ t → ok own ≡ ranged (to_z w64 (of_z w64 m)) → since ≡ since_year0 own
    → (amount : ℤ) (unit : TimeUnit) → shifted_since since amount unit ≡ shifted t amount unit
shifted_own {t} {m} {own} {since} f e g h = shifted_is t since (own_of t own since (g ∙ ap ranged (to_z-of_z f ∙ e)) h)
