-- Dates: the bounds of years.
use mathlib.Core.Path.{◌≡◌}
use Prim.Native.Nat.{ℕ, zero, suc, ◌+◌, ◌*◌, ◌≤◌}
use native.Mathlib.Numerals.{add-one}
use native.Mathlib.Omega.{arith}
use Rattle.model.specs.Calendar.{year_days, year_start, is_leap}
use Rattle.model.proofs.Laws.Calendar.{row_below, year_days_row}

-- ---- years: 365 or 366 days each
pub year_next : (y : ℕ) → year_start (y + 1) ≡ year_start y + year_days y
unfolding year_start
year_next y = rw add-one

pub year_low : (y : ℕ) → 365 * y ≤ year_start y
unfolding year_start
year_low zero = omega arith
year_low (suc y) = omega (arith, year_low y, year_days_row y)

pub year_high : (y : ℕ) → year_start y ≤ 366 * y
unfolding year_start
year_high zero = omega arith
year_high (suc y) = omega (arith, year_high y, year_days_row y, row_below (is_leap y))
