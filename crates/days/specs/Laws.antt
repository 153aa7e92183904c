-- Laws: what an answer tells.
use Rattle.std.specs.Prelude.{Bool, true, false, cond, ◌≡◌, refl, ℕ, suc, ◌/◌, ◌%◌, ◌≤◌, ◌<◌, T, leb, ltb, Option, None, Some, Result, Ok, Err}
use Rattle.std.proofs.Common.{sym, ◌∙◌, arith, leb-true, leb-false, ltb-true, ltb-false, lit≤}
use Rattle.model.specs.Calendar.{date, is_valid, day_number}
use Rattle.model.specs.Shift.{month_start}
use Rattle.model.proofs.Laws.Calendar.{day_bound, month_day, parts_valid, valid_parts}
use Rattle.model.proofs.Laws.Logic.{clash, true→t}
use Rattle.model.specs.declared.Date.{Date}
use Rattle.days.specs.Contract.{day_answer, month_answer, WithinYears}
use Rattle.days.specs.declared.day.DayFault.{DayFault}
use Rattle.days.specs.declared.day.DayFault.TheVariants.{NoDate, Late}

-- ---- a date's day
pub record ToldDay (w : Date) (n : ℕ) : Type 0 where
  pub valid : T (is_valid w)
  pub is : n ≡ day_number w
  pub small : n ≤ 3652424

pub record ToldLate (w : Date) : Type 0 where
  pub valid : T (is_valid w)
  pub late : 9999 < w.year

module _ (w : Date) where
  pub no_date : {a : Result ℕ DayFault} → a ≡ day_answer w → a ≡ Err NoDate → is_valid w ≡ false
  no_date p q = go (is_valid w) refl (leb w.year 9999) (sym q ∙ p)
    where
      go : (b : Bool) → is_valid w ≡ b → (d : Bool) → Err NoDate ≡ cond b (cond d (Ok (day_number w)) (Err Late)) (Err NoDate) → is_valid w ≡ false
      go false f d e = f
      go true f true e = clash cc
      go true f false e = clash cc

  pub late_day : {a : Result ℕ DayFault} → a ≡ day_answer w → a ≡ Err Late → ToldLate w
  late_day p q = go (is_valid w) refl (leb w.year 9999) refl (sym q ∙ p)
    where
      go : (b : Bool) → is_valid w ≡ b → (d : Bool) → leb w.year 9999 ≡ d → Err Late ≡ cond b (cond d (Ok (day_number w)) (Err Late)) (Err NoDate) → ToldLate w
      go false f d g e = clash cc
      go true f true g e = clash cc
      go true f false g e = record { valid = true→t (is_valid w) f; late = leb-false w.year 9999 g }

  pub told_day : {a : Result ℕ DayFault} (n : ℕ) → a ≡ day_answer w → a ≡ Ok n → ToldDay w n
  told_day n p q = go (is_valid w) refl (leb w.year 9999) refl (sym q ∙ p)
    where
      go : (b : Bool) → is_valid w ≡ b → (d : Bool) → leb w.year 9999 ≡ d → Ok n ≡ cond b (cond d (Ok (day_number w)) (Err Late)) (Err NoDate) → ToldDay w n
      go false f d g e = clash cc
      go true f false g e = clash cc
      go true f true g e =
          let v = true→t (is_valid w) f in
          let s : n ≡ day_number w = cc in
          record { valid = v; is = s; small = omega (arith, day_bound w (valid_parts w v) (leb-true w.year 9999 g)) }

-- ---- a month's first day
pub first_within : (k : ℕ) → k < 120000 → WithinYears (date (k / 12) (suc (k % 12)) 1)
first_within k h =
    let w = date (k / 12) (suc (k % 12)) 1 in
    let a : suc (k % 12) ≤ 12 = omega arith in
    record {
      valid = parts_valid w (record { month_low = omega arith; month_high = a; day_low = lit≤ tt; day_high = month_day (k / 12) (suc (k % 12)) (omega arith) a });
      year_high = omega arith;
    }

pub record ToldMonth (k n : ℕ) : Type 0 where
  pub within : k < 120000
  pub is : n ≡ month_start k
  pub small : n ≤ 3652424

module _ (k : ℕ) where
  pub late_month : {a : Option ℕ} → a ≡ month_answer k → a ≡ None → 120000 ≤ k
  late_month p q = go (ltb k 120000) refl (sym q ∙ p)
    where
      go : (b : Bool) → ltb k 120000 ≡ b → None ≡ cond b (Some (month_start k)) None → 120000 ≤ k
      go false f e = ltb-false k 120000 f
      go true f e = clash cc

  pub told_month : {a : Option ℕ} (n : ℕ) → a ≡ month_answer k → a ≡ Some n → ToldMonth k n
  told_month n p q = go (ltb k 120000) refl (sym q ∙ p)
    where
      go : (b : Bool) → ltb k 120000 ≡ b → Some n ≡ cond b (Some (month_start k)) None → ToldMonth k n
      go false f e = clash cc
      go true f e =
          let h = ltb-true k 120000 f in
          let s : n ≡ month_start k = cc in
          let w = first_within k h in
          record { within = h; is = s; small = omega (arith, day_bound (date (k / 12) (suc (k % 12)) 1) (valid_parts _ w.valid) w.year_high) }
