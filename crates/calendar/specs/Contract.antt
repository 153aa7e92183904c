-- Contract: what the answers of this crate's functions say, in the terms of the model, and 01's number of each.
use Rattle.std.specs.Prelude.{ℕ, ℤ, Result as Answer, Ok, Err}
use Rattle.model.specs.Instant.{ranged}
use Rattle.model.specs.declared.refusal.Fault.{Fault}
use Rattle.model.specs.declared.refusal.Fault.TheVariants.{BadDate, OutOfRange as out_of_range}
use Rattle.model.specs.Result.{Result, ok, refuse, ◌>>=◌, result_number}
use Rattle.model.specs.Shift.{shift}
use Rattle.model.specs.declared.TimeUnit.{TimeUnit}
use Rattle.days.specs.declared.day.DayFault.{DayFault}
use Rattle.days.specs.declared.day.DayFault.TheVariants.{NoDate, Late}
use Rattle.calendar.specs.declared.instant.DateFault.{DateFault}
use Rattle.calendar.specs.declared.instant.DateFault.TheVariants as Dated
use Rattle.calendar.specs.declared.instant.Instant.{Instant}
use Rattle.calendar.specs.declared.instant.OutOfRange.{OutOfRange}

-- ---- why there is no instant
-- Of a date that has no day.
abbrev pub day_fault : DayFault → DateFault
day_fault NoDate = Dated.BadDate
day_fault Late = Dated.OutOfRange

-- As the fault of an operation.
abbrev pub fault_of : DateFault → Fault
fault_of Dated.BadDate = BadDate
fault_of Dated.OutOfRange = out_of_range

-- ---- answers
-- An instant is its milliseconds.
abbrev pub instant_result : Answer Instant OutOfRange → Result ℤ
instant_result (Ok t) = ok t.ms
instant_result (Err e) = refuse out_of_range

abbrev pub date_result : Answer Instant DateFault → Result ℤ
date_result (Ok t) = ok t.ms
date_result (Err f) = refuse (fault_of f)

-- 01, What comes back: 0 is done; 8 "a string that is no date text of the wanted forms"; 9 "an instant outside its range".
abbrev pub instant_number : Answer Instant OutOfRange → ℕ
instant_number a = result_number (instant_result a)

abbrev pub date_number : Answer Instant DateFault → ℕ
date_number a = result_number (date_result a)

-- 01, Dates: "The text's own instant and the shifted one must both lie between, else 9". (`shift` itself is about an instant in range.)
abbrev pub shifted : ℤ → ℤ → TimeUnit → Result ℤ
shifted t amount unit = do
  own ← ranged t
  shift own amount unit
