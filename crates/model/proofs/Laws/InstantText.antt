-- InstantText: an instant's text has 24 bytes and reads as that instant.
use Rattle.std.specs.Prelude.{◌≡◌, refl, true, [], ◌∷◌, ◌++◌, ℕ, ◌+◌, ◌*◌, ◌-◌, ◌/◌, ◌%◌, ◌≤◌, ◌<◌, T, length, drop, ℤ}
use Rattle.std.proofs.Common.{sym, ◌∙◌, arith, le-leb}
use Rattle.std.proofs.Math.Path.{ap}
use Rattle.std.proofs.Math.IntN.{+ℤ_idr}
use Rattle.model.specs.Bytes.{Bytes, ascii, is_digit, digit_byte}
use Rattle.model.specs.Calendar.{date, month_days, date_of_day, day_number, is_valid}
use Rattle.model.specs.DateText.{starts_like, midnight, like, day_text, year_in, month_in, two_digits, date_in, after_seconds, digit_run, to_utc, is_time, date_text, is_date}
use Rattle.model.specs.Instant.{in_range, ranged, ms_per_day, from_year0, since_year0}
use Rattle.model.specs.InstantText.{digits2, date_digits, time_digits, instant_text}
use Rattle.model.specs.Result.{Result, ok, refuse}
use Rattle.model.proofs.Laws.Calendar.{month_bound, dated, date_of_day_lem, parts_valid, same_parts}
use Rattle.model.proofs.Laws.DateText.{like_length, year_form, month_form, day_form, ranged_ok, since_bound, since_back}
use Rattle.model.proofs.Laws.Logic.{T→true}
use Rattle.model.specs.declared.Date.{Date}

-- ---- figures read as their number
figure_digit : (n : ℕ) → is_digit (digit_byte n) ≡ true
figure_digit n = simp (le-leb 48 (digit_byte n) (omega arith), le-leb (digit_byte n) 57 (omega arith))

read_2 : (n : ℕ) → n ≤ 99 → (digit_byte (n / 10) - 48) * 10 + (digit_byte n - 48) ≡ n
read_2 n h = omega arith

read_3 : (n : ℕ) → n ≤ 999 → (digit_byte (n / 100) - 48) * 100 + (digit_byte (n / 10) - 48) * 10 + (digit_byte n - 48) ≡ n
read_3 n h = omega arith

last_2 : (n : ℕ) → (digit_byte (n / 10) - 48) * 10 + (digit_byte n - 48) ≡ n % 100
last_2 n = omega arith

thousands : (n : ℕ) → n / 100 / 10 ≡ n / 1000
thousands n = omega arith

read_4 : (n : ℕ) → n ≤ 9999 → ((digit_byte (n / 1000) - 48) * 10 + (digit_byte (n / 100) - 48)) * 100 + ((digit_byte (n / 10) - 48) * 10 + (digit_byte n - 48)) ≡ n
read_4 n h = let a = read_2 (n / 100) (omega arith) in let b = last_2 n in let d = ap (λ (k : ℕ). k % 10) (thousands n) in omega arith

minutes_in : (t : ℕ) → t / 3600000 * 60 + t / 60000 % 60 ≡ t / 60000
minutes_in t = omega arith

seconds_in : (t : ℕ) → t / 60000 * 60 + t / 1000 % 60 ≡ t / 1000
seconds_in t = omega arith

-- A time of day is its hours, minutes, seconds and milliseconds.
clock_sum : (t : ℕ) → ((t / 3600000 * 60 + t / 60000 % 60) * 60 + t / 1000 % 60) * 1000 + t % 1000 ≡ t
clock_sum t = let a = minutes_in t in let b = seconds_in t in omega arith

-- ---- the text of a date and a time of day, part by part
module _ (w : Date) (t : ℕ) (year_high : w.year ≤ 9999) (month_high : w.month ≤ 12) (day_high : w.day ≤ 31) (t-high : t < 86400000) where
  abbrev s : Bytes
  s = date_digits w ++ (ascii "T" ++ (time_digits t ++ ascii "Z"))

  head : starts_like (ascii "0000-00-00T00:00:00") s ≡ true
  unfolding starts_like
  head = simp figure_digit

  date_part : date_in s ≡ w
  date_part = same_parts (date_in s) w (read_4 w.year year_high) (read_2 w.month (omega arith)) (read_2 w.day (omega arith))

  hours : two_digits s 11 ≡ t / 3600000
  hours = read_2 (t / 3600000) (omega arith)

  minutes : two_digits s 14 ≡ t / 60000 % 60
  minutes = read_2 (t / 60000 % 60) (omega arith)

  seconds : two_digits s 17 ≡ t / 1000 % 60
  seconds = read_2 (t / 1000 % 60) (omega arith)

  rest : (u : ℕ) → after_seconds u (drop 19 s) ≡ ranged (from_year0 (u + t % 1000))
  unfolding after_seconds starts_like digit_run to_utc
  rest u = simp (figure_digit, read_3 (t % 1000) (omega arith), +ℤ_idr)

  in_day : is_time (two_digits s 11) (two_digits s 14) (two_digits s 17) ≡ true
  in_day = simp (hours, minutes, seconds, le-leb (t / 3600000) 23 (omega arith), le-leb (t / 60000 % 60) 59 (omega arith), le-leb (t / 1000 % 60) 59 (omega arith))

  total : day_number (date_in s) * ms_per_day + ((two_digits s 11 * 60 + two_digits s 14) * 60 + two_digits s 17) * 1000 + t % 1000 ≡ day_number w * ms_per_day + t
  total = omega (arith, ap day_number date_part, hours, minutes, seconds, clock_sum t)

  whole : T (is_valid w) → date_text s ≡ ranged (from_year0 (day_number w * ms_per_day + t))
  unfolding date_text
  whole v = rw (head, ap is_valid date_part ∙ T→true (is_valid w) v, in_day) (rest _ ∙ ap (λ (x : ℕ). ranged (from_year0 x)) total)

-- ---- the text of an instant
-- 01, Writing: "a fixed record of 24 bytes"
pub text_24 : (t : ℤ) → length (instant_text t) ≡ 24
unfolding instant_text
text_24 t = refl

-- Reading an instant's text gives the instant.
pub reads_back : (t : ℤ) → T (in_range t) → date_text (instant_text t) ≡ ok t
unfolding instant_text
reads_back t h =
    let u = since_year0 t in
    let b = since_bound t h in
    let n = u / ms_per_day in
    let w = date_of_day n in
    let d = dated n w (omega arith) refl in
    let c = date_of_day_lem n in
    let f : day_number w * ms_per_day + u % ms_per_day ≡ u = omega (arith, c.counts) in
    whole w (u % ms_per_day) d.year_high d.month_high d.day_high (omega arith) (parts_valid w c.good)
    ∙ (ap (λ (x : ℕ). ranged (from_year0 x)) f ∙ (ap ranged (since_back t h) ∙ ranged_ok t h))

pub instant_text_is_date : (t : ℤ) → T (in_range t) → T (is_date (instant_text t))
instant_text_is_date t h = rw (reads_back t h) tt

value_or : ℤ → Result ℤ → ℤ
value_or t (ok r) = r
value_or t (refuse f) = t

-- So two instants in range have two texts.
pub text_once : (t u : ℤ) → T (in_range t) → T (in_range u) → instant_text t ≡ instant_text u → t ≡ u
unfolding value_or
text_once t u h k e = ap (value_or t) (sym (reads_back t h) ∙ (ap date_text e ∙ reads_back u k))

-- ---- the first two forms written out
-- "YYYY is its 31 December":
pub year_text : (s : Bytes) → T (like (ascii "0000") s) → day_text s ≡ day_text (s ++ ascii "-12-31")
unfolding starts_like
year_text [] h = absurd h
year_text (a ∷ []) h = absurd h
year_text (a ∷ b ∷ []) h = absurd h
year_text (a ∷ b ∷ c ∷ []) h = absurd h
year_text (a ∷ b ∷ c ∷ d ∷ []) h = year_form (a ∷ b ∷ c ∷ d ∷ []) h ∙ sym (day_form (a ∷ b ∷ c ∷ d ∷ ascii "-12-31") h)
year_text (a ∷ b ∷ c ∷ d ∷ e ∷ s) h = absurd (let l = like_length (ascii "0000") (a ∷ b ∷ c ∷ d ∷ e ∷ s) h in omega arith)

-- "YYYY-MM its month's last day":
pub month_text : (s : Bytes) → T (like (ascii "0000-00") s) → day_text s ≡ day_text (s ++ (ascii "-" ++ digits2 (month_days (year_in s) (month_in s))))
unfolding starts_like
month_text [] h = absurd h
month_text (a ∷ []) h = absurd h
month_text (a ∷ b ∷ []) h = absurd h
month_text (a ∷ b ∷ c ∷ []) h = absurd h
month_text (a ∷ b ∷ c ∷ d ∷ []) h = absurd h
month_text (a ∷ b ∷ c ∷ d ∷ e ∷ []) h = absurd h
month_text (a ∷ b ∷ c ∷ d ∷ e ∷ f ∷ []) h = absurd h
month_text (a ∷ b ∷ c ∷ d ∷ e ∷ f ∷ g ∷ []) h =
    let s = a ∷ b ∷ c ∷ d ∷ e ∷ f ∷ g ∷ [] in
    let n = month_days (year_in s) (month_in s) in
    let s' = s ++ (ascii "-" ++ digits2 n) in
    let k : T (like (ascii "0000-00-00") s') = simp figure_digit h in
    let d = sym (read_2 n (omega (arith, month_bound (year_in s) (month_in s)))) in
    month_form s h ∙ (ap (λ (x : ℕ). midnight (date (year_in s) (month_in s) x)) d ∙ sym (day_form s' k))
month_text (a ∷ b ∷ c ∷ d ∷ e ∷ f ∷ g ∷ x ∷ s) h = absurd (let l = like_length (ascii "0000-00") (a ∷ b ∷ c ∷ d ∷ e ∷ f ∷ g ∷ x ∷ s) h in omega arith)
