-- DateText: the instant that a date text stands for. 01, Dates, over the nineteen forms of document 001 under `plusTime`:
--   YYYY  YYYY-MM  YYYY-MM-DD                   three forms of a day
--   YYYY-MM-DDThh:mm:ss  then nothing or .S     S: one to nine digits
--   then nothing, Z, or + or - and one of       h  hh  hmm  hhmm  h:mm  hh:mm
use Rattle.std.specs.Prelude.{Bool, true, false, ◌&&◌, cond, [], ◌∷◌, ℕ, suc, ◌+◌, ◌*◌, eqb, leb, get_or, length, take, drop, ℤ, pos, ◌+ℤ◌, neg_ℤ}
use Rattle.std.specs.Prelude.{Option, None, Some, option_map}
use Rattle.model.specs.Bytes.{Bytes, ascii, byte, is_digit, digit_value}
use Rattle.model.specs.Calendar.{date, day_number, is_valid, month_days}
use Rattle.model.specs.Instant.{from_year0, ms_per_day, ranged}
use Rattle.model.specs.Option.{when}
use Rattle.model.specs.declared.refusal.Fault.TheVariants.{BadDate}
use Rattle.model.specs.Result.{Result, refuse, ◌>>=◌, provided, required, is_ok}
use Rattle.model.specs.declared.Date.{Date}

-- ---- shapes: in a shape a 0 stands for any digit, every other byte for itself
abbrev pub fits_byte : ℕ → ℕ → Bool
fits_byte p x = cond (eqb p (byte "0")) (is_digit x) (eqb p x)

-- A text begins with a shape.
unfoldable pub starts_like : Bytes → Bytes → Bool
starts_like [] s = true
starts_like (p ∷ ps) [] = false
starts_like (p ∷ ps) (x ∷ s) = fits_byte p x && starts_like ps s

-- It has the shape: it begins with it and is no longer.
abbrev pub like : Bytes → Bytes → Bool
like p s = eqb (length s) (length p) && starts_like p s

-- ---- the numbers at a place of a text
-- A place past the end counts as 0.
abbrev pub digit_at : Bytes → ℕ → ℕ
digit_at s i = digit_value (get_or s i 0)

abbrev pub two_digits : Bytes → ℕ → ℕ
two_digits s i = digit_at s i * 10 + digit_at s (i + 1)

abbrev pub year_in : Bytes → ℕ
year_in s = two_digits s 0 * 100 + two_digits s 2

abbrev pub month_in : Bytes → ℕ
month_in s = two_digits s 5

abbrev pub date_in : Bytes → Date
date_in s = date (year_in s) (month_in s) (two_digits s 8)

-- ---- the first three forms
-- "YYYY is its 31 December; YYYY-MM its month's last day."
abbrev pub last_of_year : ℕ → Date
last_of_year y = date y 12 31

abbrev pub last_of_month : ℕ → ℕ → Date
last_of_month y m = date y m (month_days y m)

-- A date's first instant.
abbrev pub midnight : Date → Result ℤ
midnight w = provided (is_valid w) BadDate (ranged (from_year0 (day_number w * ms_per_day)))

-- YYYY, YYYY-MM, YYYY-MM-DD; any other text is 8.
unfoldable pub day_text : Bytes → Result ℤ
day_text s =
    cond (like (ascii "0000") s) (midnight (last_of_year (year_in s)))
    (cond (like (ascii "0000-00") s) (midnight (last_of_month (year_in s) (month_in s)))
    (cond (like (ascii "0000-00-00") s) (midnight (date_in s))
    (refuse BadDate)))

-- ---- offsets
-- "offset hours to 23 and minutes to 59": in milliseconds.
abbrev pub offset_of : ℕ → ℕ → Option ℕ
offset_of h m = when (leb h 23 && leb m 59) (Some ((h * 60 + m) * 60000))

-- What follows the sign.
unfoldable pub offset_digits : Bytes → Option ℕ
offset_digits r =
    cond (like (ascii "0") r) (offset_of (digit_at r 0) 0)
    (cond (like (ascii "00") r) (offset_of (two_digits r 0) 0)
    (cond (like (ascii "000") r) (offset_of (digit_at r 0) (two_digits r 1))
    (cond (like (ascii "0000") r) (offset_of (two_digits r 0) (two_digits r 2))
    (cond (like (ascii "0:00") r) (offset_of (digit_at r 0) (two_digits r 2))
    (cond (like (ascii "00:00") r) (offset_of (two_digits r 0) (two_digits r 3))
    None)))))

-- The milliseconds that lead from local time to UTC: clocks at +h run ahead. "No offset means Z."
unfoldable pub to_utc : Bytes → Option ℤ
to_utc z =
    cond (like (ascii "") z) (Some (pos 0))
    (cond (like (ascii "Z") z) (Some (pos 0))
    (cond (starts_like (ascii "+") z) (option_map (λ k. neg_ℤ (pos k)) (offset_digits (drop 1 z)))
    (cond (starts_like (ascii "-") z) (option_map pos (offset_digits (drop 1 z)))
    None)))

-- ---- fractions
-- "A fraction has one to nine digits; those after the third are dropped."
abbrev pub max_fraction_digits : ℕ
max_fraction_digits = 9

-- How many digits a text begins with.
unfoldable pub digit_run : Bytes → ℕ
digit_run [] = 0
digit_run (x ∷ s) = cond (is_digit x) (suc (digit_run s)) 0

-- The first three digits of a fraction as milliseconds; a digit that is not there counts as 0.
abbrev pub fraction_digit : Bytes → ℕ → ℕ
fraction_digit f i = digit_value (get_or f i (byte "0"))

abbrev pub milliseconds : Bytes → ℕ
milliseconds f = fraction_digit f 0 * 100 + fraction_digit f 1 * 10 + fraction_digit f 2

-- ---- times
-- The instant of a local time in milliseconds since 0000-01-01, and what follows its last digit.
abbrev pub zoned : ℕ → Bytes → Result ℤ
zoned u z = do
  correction ← required BadDate (to_utc z)
  ranged (from_year0 u +ℤ correction)

-- The instant of a local time in whole seconds, and what follows them.
unfoldable pub after_seconds : ℕ → Bytes → Result ℤ
after_seconds u t =
    let digits = digit_run (drop 1 t) in
    cond (starts_like (ascii ".") t)
    (provided (leb 1 digits && leb digits max_fraction_digits) BadDate
    (zoned (u + milliseconds (take digits (drop 1 t))) (drop (1 + digits) t)))
    (zoned u t)

-- "hour to 23, minute and second to 59"
abbrev pub is_time : ℕ → ℕ → ℕ → Bool
is_time h m s = leb h 23 && (leb m 59 && leb s 59)

-- The text begins with the shape 0000-00-00T00:00:00.
abbrev pub time_text : Bytes → Result ℤ
time_text s =
    let h = two_digits s 11 in
    let m = two_digits s 14 in
    let c = two_digits s 17 in
    provided (is_valid (date_in s) && is_time h m c) BadDate
    (after_seconds (day_number (date_in s) * ms_per_day + ((h * 60 + m) * 60 + c) * 1000) (drop 19 s))

-- ---- all nineteen forms
-- With a time or without; any other text is 8.
unfoldable pub date_text : Bytes → Result ℤ
date_text s = cond (starts_like (ascii "0000-00-00T00:00:00") s) (time_text s) (day_text s)

-- 01, Sheets: "date (a string in one of the nineteen forms, instant in range), day (one of the first three)".
abbrev pub is_date : Bytes → Bool
is_date s = is_ok (date_text s)

abbrev pub is_day : Bytes → Bool
is_day s = is_ok (day_text s)
