-- Instant: a count of milliseconds from 1970-01-01 (Gregorian, no leap seconds), within a range.
use Rattle.std.specs.Prelude.{Bool, ◌&&◌, ℕ, suc, ◌+◌, ◌-◌, ℤ, pos, negsuc, ◌+ℤ◌, neg_ℤ}
use Rattle.std.specs.Int.Signed.{le_z}
use Rattle.model.specs.declared.refusal.Fault.TheVariants.{OutOfRange}
use Rattle.model.specs.Result.{Result, ok, provided}

-- The milliseconds from 0000-01-01 to 1970-01-01.
abbrev pub ms_before1970 : ℕ
ms_before1970 = 62167219200000

-- 01, Dates: "The earliest and the latest instant": the start of 0000-01-01 and the last millisecond of 9999-12-31.
abbrev pub earliest : ℤ
earliest = neg_ℤ (pos ms_before1970)

abbrev pub latest : ℤ
latest = pos 253402300799999

abbrev pub in_range : ℤ → Bool
in_range t = le_z earliest t && le_z t latest

-- 01, Dates: instants "must both lie between, else 9".
abbrev pub ranged : ℤ → Result ℤ
ranged t = provided (in_range t) OutOfRange (ok t)

abbrev pub ms_per_day : ℕ
ms_per_day = 86400000

abbrev pub ms_per_hour : ℕ
ms_per_hour = 3600000

-- From milliseconds since 0000-01-01 to an instant, and back from an instant in range.
abbrev pub from_year0 : ℕ → ℤ
from_year0 u = pos u +ℤ earliest

abbrev pub since_year0 : ℤ → ℕ
since_year0 (pos n) = n + ms_before1970
since_year0 (negsuc n) = ms_before1970 - suc n
