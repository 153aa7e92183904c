-- InstantText: 01, Writing: "An instant's text is a fixed record of 24 bytes", as 2020-03-02T00:00:00.000Z.
use Rattle.std.specs.Prelude.{[], ◌∷◌, ◌++◌, ℕ, ◌/◌, ◌%◌, ℤ}
use Rattle.model.specs.Bytes.{Bytes, ascii, digit_byte}
use Rattle.model.specs.Calendar.{date_of_day}
use Rattle.model.specs.Instant.{since_year0, ms_per_day}
use Rattle.model.specs.declared.Date.{Date}

-- A number's last two decimal digits, its last three and four.
abbrev pub digits2 : ℕ → Bytes
digits2 n = digit_byte (n / 10) ∷ digit_byte n ∷ []

abbrev pub digits3 : ℕ → Bytes
digits3 n = digit_byte (n / 100) ∷ digits2 n

abbrev pub digits4 : ℕ → Bytes
digits4 n = digit_byte (n / 1000) ∷ digits3 n

abbrev pub date_digits : Date → Bytes
date_digits w = digits4 w.year ++ (ascii "-" ++ (digits2 w.month ++ (ascii "-" ++ digits2 w.day)))

-- Of a time of day in milliseconds.
abbrev pub time_digits : ℕ → Bytes
time_digits t =
    digits2 (t / 3600000)
    ++ (ascii ":" ++ (digits2 (t / 60000 % 60) ++ (ascii ":" ++ (digits2 (t / 1000 % 60) ++ (ascii "." ++ digits3 (t % 1000))))))

unfoldable pub instant_text : ℤ → Bytes
instant_text t =
    let u = since_year0 t in
    date_digits (date_of_day (u / ms_per_day)) ++ (ascii "T" ++ (time_digits (u % ms_per_day) ++ ascii "Z"))
