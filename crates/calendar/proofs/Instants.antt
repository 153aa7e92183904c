-- Instants: where the code meets signed numbers.
use mathlib.Core.Path.{◌≡◌, refl, sym}
use Rattle.std.specs.Prelude.{Err}
use Rattle.std.specs.Int.{cast_unsigned, int_max}
use Rattle.std.proofs.Math.Decide.{dec_lt}
use mathlib.Core.Bool.{true, false}
use Prim.Native.Nat.{ℕ, ◌+◌, ◌*◌, ◌%◌, ◌^◌, ◌≤◌, ◌<◌}
use native.Mathlib.Omega.{arith}
use borrow.Author.Tests.{ltb-true, ltb-false, le-leb, lt-leb, lt-ltb, le-ltb}
use lib.Dec.{T, leb, leb→le}
use lib.IntN.{ℤ, pos, negsuc}
use lib.Signed.{lt_z}
use mir.Syntax.{w64}
use mir.Val.{SFits}
use Rattle.model.specs.Calendar.{day_number, is_valid}
use Rattle.model.specs.DateText.{midnight}
use Rattle.model.specs.Instant.{earliest, latest, ms_before1970, ms_per_day, in_range, ranged, from_year0, since_year0}
use Rattle.model.proofs.Laws.Calendar.{day_in_year, valid_parts, year_mono, year_10000}
use Rattle.model.proofs.Laws.DateText.{from_in_range}
use Rattle.model.proofs.Laws.Logic.{and_l, T→true}
use Rattle.model.specs.declared.refusal.Fault.TheVariants.{BadDate, OutOfRange}
use Rattle.model.specs.Result.{ok, refuse}
use Rattle.model.specs.declared.Date.{Date}
use Rattle.days.specs.Contract.{day_answer}
use Rattle.days.specs.Laws.{no_date, late_day}
use Rattle.days.specs.declared.day.DayFault.{DayFault}
use Rattle.days.specs.declared.day.DayFault.TheVariants.{NoDate, Late}
use Rattle.calendar.specs.Contract.{day_fault, fault_of}
use Rattle.calendar.proofs.Laws.Instant.{from_late}

-- ---- the range
pub early : (t : ℤ) → lt_z t earliest ≡ true → ranged t ≡ refuse OutOfRange
early (pos n) e = cc
early (negsuc n) e = rw (lt-leb n 62167219199999 (ltb-true 62167219199999 n e))

pub late : (t : ℤ) → lt_z latest t ≡ true → ranged t ≡ refuse OutOfRange
late (pos n) e = rw (lt-leb n 253402300799999 (ltb-true 253402300799999 n e))
late (negsuc n) e = cc

pub within : (t : ℤ) → lt_z t earliest ≡ false → lt_z latest t ≡ false → ranged t ≡ ok t
within (pos n) e f = rw (le-leb n 253402300799999 (ltb-false 253402300799999 n f))
within (negsuc n) e f = rw (le-leb n 62167219199999 (ltb-false 62167219199999 n e))

-- ---- from milliseconds since 0000-01-01
range_fits : (t : ℤ) → T (in_range t) → SFits w64 t
range_fits (pos n) h = record { sfits = omega (arith, leb→le n 253402300799999 h) }
range_fits (negsuc n) h = record { sfits = omega (arith, leb→le n 62167219199999 (and_l (leb n 62167219199999) true h)) }

pub from_fits : (u : ℕ) → u ≤ 315569519999999 → SFits w64 (from_year0 u)
from_fits u h = range_fits (from_year0 u) (from_in_range u h)

-- ---- and back
pub since_is : (t : ℤ) → SFits w64 t → (ms_before1970 + cast_unsigned w64 (int_max t earliest)) % 2 ^ 64 ≡ since_year0 t
since_is (pos n) f = let g = f.sfits in omega arith
since_is (negsuc n) f = go (dec_lt n 62167219199999)
  where
    go : Dec (n < 62167219199999) → (ms_before1970 + cast_unsigned w64 (int_max (negsuc n) earliest)) % 2 ^ 64 ≡ since_year0 (negsuc n)
    go (yes h) = rw (lt-ltb n 62167219199999 h) (omega arith)
    go (no h) = rw (le-ltb n 62167219199999 (omega arith)) (omega arith)

-- ---- midnights
midnight_bad : (w : Date) → is_valid w ≡ false → midnight w ≡ refuse BadDate
midnight_bad w e = rw e

midnight_late : (w : Date) → T (is_valid w) → 9999 < w.year → midnight w ≡ refuse OutOfRange
midnight_late w v h =
    let a = day_in_year w (valid_parts w v) in
    let b = year_mono 10000 w.year h in
    rw (T→true (is_valid w) v) (from_late (day_number w * ms_per_day) (omega (arith, year_10000)))

-- A date without a day.
pub midnight_none : (w : Date) (f : DayFault) → day_answer w ≡ Err f → refuse (fault_of (day_fault f)) ≡ midnight w
midnight_none w NoDate e = sym (midnight_bad w (no_date w refl e))
midnight_none w Late e = let t = late_day w refl e in sym (midnight_late w t.valid t.late)
