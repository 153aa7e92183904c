-- Contract: what the entries answer, as numbers and bytes.
use Rattle.std.specs.Prelude.{cond, ℕ, eqb, ℤ, pos, length}
use Rattle.std.specs.Prelude.{Option, None, Some, option_map}
use Rattle.model.specs.Bytes.{Bytes}
use Rattle.model.specs.Instant.{ranged}
use Rattle.model.specs.InstantText.{instant_text}
use Rattle.model.specs.Option.{when}
use Rattle.model.specs.Result.{Result, ok, refuse, result_number}
use Rattle.model.specs.declared.TimeUnit.{TimeUnit}
use Rattle.model.specs.declared.TimeUnit.TheVariants.{Year, Month, Day, Hour}
use Rattle.calendar.specs.Contract.{shifted}

abbrev pub milliseconds_of : Result ℤ → ℤ
milliseconds_of (ok t) = t
milliseconds_of (refuse f) = pos 0

-- ---- what may have no result: an argument that the entry does not take, which is 1
abbrev pub answer_number : Option (Result ℤ) → ℕ
answer_number None = 1
answer_number (Some r) = result_number r

abbrev pub answer_ms : Option (Result ℤ) → ℤ
answer_ms None = pos 0
answer_ms (Some r) = milliseconds_of r

-- The text where there is an instant, else the bytes as they are.
abbrev pub answer_bytes : Option (Result ℤ) → Bytes → Bytes
answer_bytes None area = area
answer_bytes (Some (ok t)) area = instant_text t
answer_bytes (Some (refuse f)) area = area

-- ---- shifts
abbrev pub unit_of : ℕ → Option TimeUnit
unit_of n =
    cond (eqb n 0) (Some Year)
    (cond (eqb n 1) (Some Month)
    (cond (eqb n 2) (Some Day)
    (cond (eqb n 3) (Some Hour)
    None)))

abbrev pub shift_answer : ℤ → ℤ → ℕ → Option (Result ℤ)
shift_answer from amount unit = option_map (shifted from amount) (unit_of unit)

abbrev pub shift_number : ℤ → ℤ → ℕ → ℕ
shift_number from amount unit = answer_number (shift_answer from amount unit)

abbrev pub shift_ms : ℤ → ℤ → ℕ → ℤ
shift_ms from amount unit = answer_ms (shift_answer from amount unit)

-- ---- texts
abbrev pub text_answer : ℤ → Bytes → Option (Result ℤ)
text_answer ms area = when (eqb (length area) 24) (Some (ranged ms))

abbrev pub text_number : ℤ → Bytes → ℕ
text_number ms area = answer_number (text_answer ms area)

abbrev pub text_bytes : ℤ → Bytes → Bytes
text_bytes ms area = answer_bytes (text_answer ms area) area
