-- DateText: an instant that is read is in range; a day's text is a date's text; which faults refuse a text.
use Rattle.std.specs.Prelude.{◌≡◌, refl, Bool, true, false, ◌&&◌, cond, [], ◌∷◌, ◌++◌, ℕ, zero, suc, ◌+◌, ◌*◌, ◌-◌, ◌≤◌, ◌<◌, T, eqb, leb, ltb, get_or, length, drop, take, ℤ, pos, negsuc, ◌+ℤ◌}
use Rattle.std.proofs.Common.{sym, ◌∙◌, ap, subst, arith, ltb-true, ltb-false, lt-ltb, le-ltb, le-leb, ne_eqb, leb→le, le→leb, eqb→eq}
use Rattle.std.specs.Prelude.{Option, None, Some}
use Rattle.model.specs.Bytes.{Bytes, ascii, byte, is_digit, digit_value}
use Rattle.model.specs.Calendar.{day_number, is_valid, months, sum_first, year_start}
use Rattle.model.specs.DateText.{fits_byte, starts_like, like, offset_digits, two_digits, year_in, month_in, date_in, last_of_year, last_of_month, midnight, day_text, to_utc, zoned, after_seconds, is_time, time_text, date_text, is_date, is_day, digit_run, milliseconds, max_fraction_digits}
use Rattle.model.specs.Instant.{in_range, ranged, ms_per_day, from_year0, since_year0}
use Rattle.model.specs.declared.refusal.Fault.{Fault}
use Rattle.model.specs.declared.refusal.Fault.TheVariants.{WrongKind, BadDate, OutOfRange}
use Rattle.model.specs.Result.{Result, ok, refuse, ◌>>=◌, required, is_ok}
use Rattle.model.proofs.Laws.Calendar.{valid_parts, day_bound}
use Rattle.model.proofs.Laws.Logic.{and_l, and_r, T→true, true→t}
use Rattle.model.proofs.Laws.Result.{Yields, yields_provided, yields_cond}
use Rattle.model.specs.declared.Date.{Date}

-- ---- instants and milliseconds since 0000-01-01
-- The milliseconds of the years 0000 to 9999 are instants in range,
pub from_in_range : (u : ℕ) → u ≤ 315569519999999 → T (in_range (from_year0 u))
from_in_range u h = go (ltb u 62167219200000) refl
  where
    go : (b : Bool) → ltb u 62167219200000 ≡ b → T (in_range (cond b (negsuc (62167219200000 - suc u)) (pos (u - 62167219200000))))
    go true e = rw (le-leb (62167219200000 - suc u) 62167219199999 (let f = ltb-true u 62167219200000 e in omega arith)) tt
    go false e = le→leb (u - 62167219200000) 253402300799999 (let f = ltb-false u 62167219200000 e in omega arith)

-- and every instant in range is one of them.
pub since_bound : (t : ℤ) → T (in_range t) → since_year0 t ≤ 315569519999999
since_bound (pos n) h = omega (arith, leb→le n 253402300799999 h)
since_bound (negsuc n) h = omega arith

pub since_back : (t : ℤ) → T (in_range t) → from_year0 (since_year0 t) ≡ t
since_back (pos n) h = rw (le-ltb (n + 62167219200000) 62167219200000 (omega arith)) (ap pos (omega arith))
since_back (negsuc n) h =
    let e = leb→le n 62167219199999 (and_l (leb n 62167219199999) true h) in
    rw (lt-ltb (62167219200000 - suc n) 62167219200000 (omega arith)) (ap negsuc (omega arith))

pub ranged_ok : (t : ℤ) → T (in_range t) → ranged t ≡ ok t
ranged_ok t h = rw (T→true (in_range t) h)

-- ---- what a result may be
abbrev InRange : ℤ → Type 0
InRange t = T (in_range t)

abbrev May : (Fault → Bool) → Fault → Type 0
May may f = T (may f)

-- An instant in range, or a fault that passes a test.
abbrev pub Within : (Fault → Bool) → Result ℤ → Type 0
Within may r = Yields (May may) InRange r

abbrev pub only_bad : Fault → Bool
only_bad WrongKind = false
only_bad BadDate = true
only_bad OutOfRange = false

abbrev pub only_out : Fault → Bool
only_out WrongKind = false
only_out BadDate = false
only_out OutOfRange = true

abbrev pub bad_or_out : Fault → Bool
bad_or_out WrongKind = false
bad_or_out BadDate = true
bad_or_out OutOfRange = true

pub within_ranged : (may : Fault → Bool) → T (may OutOfRange) → (t : ℤ) → Within may (ranged t)
within_ranged may h t = yields_provided (May may) InRange (in_range t) OutOfRange (ok t) h (λ k. k)

within_more : (r : Result ℤ) → Within only_bad r → Within bad_or_out r
within_more (ok t) h = h
within_more (refuse WrongKind) h = h
within_more (refuse BadDate) h = tt
within_more (refuse OutOfRange) h = tt

-- ---- shapes
pub begins_length : (p s : Bytes) → T (starts_like p s) → length p ≤ length s
unfolding starts_like
begins_length [] s h = omega arith
begins_length (p ∷ ps) [] h = absurd h
begins_length (p ∷ ps) (x ∷ s) h = let e = begins_length ps s (and_r (fits_byte p x) (starts_like ps s) h) in omega arith

pub like_length : (p s : Bytes) → T (like p s) → length s ≡ length p
like_length p s h = eqb→eq (length s) (length p) (and_l (eqb (length s) (length p)) (starts_like p s) h)

pub like_begins : (p s : Bytes) → T (like p s) → T (starts_like p s)
like_begins p s h = and_r (eqb (length s) (length p)) (starts_like p s) h

pub unlike : (p s : Bytes) → length p < length s → like p s ≡ false
unlike p s h = rw (ne_eqb (length s) (length p) (λ e. omega arith))

pub digit_low : (x : ℕ) → T (is_digit x) → digit_value x ≤ 9
digit_low x h = let e = leb→le x 57 (and_r (leb 48 x) (leb x 57) h) in omega arith

-- Four digits make a year up to 9999.
pub year_bound : (p s : Bytes) → T (starts_like (ascii "0000" ++ p) s) → year_in s ≤ 9999
unfolding starts_like
year_bound p [] h = absurd h
year_bound p (a ∷ []) h = absurd (and_r (is_digit a) false h)
year_bound p (a ∷ b ∷ []) h = absurd (and_r (is_digit b) false (and_r (is_digit a) _ h))
year_bound p (a ∷ b ∷ c ∷ []) h = absurd (and_r (is_digit c) false (and_r (is_digit b) _ (and_r (is_digit a) _ h)))
year_bound p (a ∷ b ∷ c ∷ d ∷ s) h =
    let h₁ = and_r (is_digit a) _ h in
    let h₂ = and_r (is_digit b) _ h₁ in
    let h₃ = and_r (is_digit c) _ h₂ in
    omega (arith, digit_low a (and_l (is_digit a) _ h), digit_low b (and_l (is_digit b) _ h₁), digit_low c (and_l (is_digit c) _ h₂), digit_low d (and_l (is_digit d) _ h₃))

-- ---- the first three forms
-- The midnight of a valid date up to year 9999 is in range.
midnight_in_range : (w : Date) → T (is_valid w) → w.year ≤ 9999 → T (in_range (from_year0 (day_number w * ms_per_day)))
midnight_in_range w v h = let d = day_bound w (valid_parts w v) h in from_in_range (day_number w * ms_per_day) (omega arith)

pub midnight_ok : (w : Date) → T (is_valid w) → w.year ≤ 9999 → midnight w ≡ ok (from_year0 (day_number w * ms_per_day))
midnight_ok w v h = rw (T→true (is_valid w) v) (ranged_ok (from_year0 (day_number w * ms_per_day)) (midnight_in_range w v h))

within_midnight : (w : Date) → w.year ≤ 9999 → Within only_bad (midnight w)
within_midnight w h =
    yields_provided (May only_bad) InRange (is_valid w) BadDate _ tt
    (λ v. let i = midnight_in_range w v h in rw (ranged_ok (from_year0 (day_number w * ms_per_day)) i) i)

pub day_within : (s : Bytes) → Within only_bad (day_text s)
unfolding day_text
day_within s =
    yields_cond (May only_bad) InRange (like (ascii "0000") s) _ _ (λ h. within_midnight (last_of_year (year_in s)) (year_bound [] s (like_begins (ascii "0000") s h)))
    (yields_cond (May only_bad) InRange (like (ascii "0000-00") s) _ _ (λ h. within_midnight (last_of_month (year_in s) (month_in s)) (year_bound (ascii "-00") s (like_begins (ascii "0000-00") s h)))
    (yields_cond (May only_bad) InRange (like (ascii "0000-00-00") s) _ _ (λ h. within_midnight (date_in s) (year_bound (ascii "-00-00") s (like_begins (ascii "0000-00-00") s h)))
    tt))

-- "YYYY is its 31 December; YYYY-MM its month's last day."
pub year_form : (s : Bytes) → T (like (ascii "0000") s) → day_text s ≡ midnight (last_of_year (year_in s))
unfolding day_text
year_form s h = rw (T→true (like (ascii "0000") s) h)

pub month_form : (s : Bytes) → T (like (ascii "0000-00") s) → day_text s ≡ midnight (last_of_month (year_in s) (month_in s))
unfolding day_text
month_form s h = simp (T→true (like (ascii "0000-00") s) h, unlike (ascii "0000") s (omega (arith, like_length (ascii "0000-00") s h)))

pub day_form : (s : Bytes) → T (like (ascii "0000-00-00") s) → day_text s ≡ midnight (date_in s)
unfolding day_text
day_form s h =
    let e = like_length (ascii "0000-00-00") s h in
    simp (T→true (like (ascii "0000-00-00") s) h, unlike (ascii "0000") s (omega arith), unlike (ascii "0000-00") s (omega arith))

-- Each of the first three forms is in range.
pub day_in_range : (s : Bytes) (t : ℤ) → day_text s ≡ ok t → T (in_range t)
day_in_range s t e = subst (Within only_bad) e (day_within s)

pub day_never_out : (s : Bytes) → ¬ (day_text s ≡ refuse OutOfRange)
day_never_out s e = subst (Within only_bad) e (day_within s)

-- ---- fractions
run_digit : (s : Bytes) (i : ℕ) → T (is_digit (get_or (take (digit_run s) s) i (byte "0")))
unfolding digit_run
run_digit [] i = tt
run_digit (x ∷ s) i = go (is_digit x) refl i (run_digit s)
  where
    go : (b : Bool) → is_digit x ≡ b → (i : ℕ) → ((j : ℕ) → T (is_digit (get_or (take (digit_run s) s) j (byte "0"))))
        → T (is_digit (get_or (take (cond b (suc (digit_run s)) 0) (x ∷ s)) i (byte "0")))
    go true e zero f = true→t (is_digit x) e
    go true e (suc i) f = f i
    go false e i f = tt

-- A fraction is less than a second.
pub milliseconds_bound : (s : Bytes) → milliseconds (take (digit_run s) s) ≤ 999
milliseconds_bound s =
    let f = take (digit_run s) s in
    omega (arith, digit_low (get_or f 0 (byte "0")) (run_digit s 0), digit_low (get_or f 1 (byte "0")) (run_digit s 1), digit_low (get_or f 2 (byte "0")) (run_digit s 2))

-- "those after the third are dropped"
pub fraction_three : (a b c : ℕ) (f : Bytes) → milliseconds (a ∷ b ∷ c ∷ f) ≡ milliseconds (a ∷ b ∷ c ∷ [])
fraction_three a b c f = refl

-- ---- all forms
-- "No offset means Z."
pub no_offset : (u : ℕ) → zoned u [] ≡ zoned u (ascii "Z")
unfolding to_utc starts_like
no_offset u = refl

within_zoned : (u : ℕ) (z : Bytes) → Within bad_or_out (zoned u z)
within_zoned u z = go (to_utc z)
  where
    go : (o : Option ℤ) → Within bad_or_out (required BadDate o >>= λ correction. ranged (from_year0 u +ℤ correction))
    go None = tt
    go (Some c) = within_ranged bad_or_out tt (from_year0 u +ℤ c)

within_seconds : (u : ℕ) (t : Bytes) → Within bad_or_out (after_seconds u t)
unfolding after_seconds
within_seconds u t =
    let digits = digit_run (drop 1 t) in
    yields_cond (May bad_or_out) InRange (starts_like (ascii ".") t) _ _
    (λ h. yields_provided (May bad_or_out) InRange (leb 1 digits && leb digits max_fraction_digits) BadDate _ tt (λ k. within_zoned (u + milliseconds (take digits (drop 1 t))) (drop (1 + digits) t)))
    (within_zoned u t)

pub date_within : (s : Bytes) → Within bad_or_out (date_text s)
unfolding date_text
date_within s =
    yields_cond (May bad_or_out) InRange (starts_like (ascii "0000-00-00T00:00:00") s) _ _
    (λ h. yields_provided (May bad_or_out) InRange (is_valid (date_in s) && is_time (two_digits s 11) (two_digits s 14) (two_digits s 17)) BadDate _ tt (λ k. within_seconds _ (drop 19 s)))
    (within_more (day_text s) (day_within s))

-- An instant that is read is in range.
pub date_in_range : (s : Bytes) (t : ℤ) → date_text s ≡ ok t → T (in_range t)
date_in_range s t e = subst (Within bad_or_out) e (date_within s)

-- A text is refused by bad_date or out_of_range only.
pub date_never_kind : (s : Bytes) → ¬ (date_text s ≡ refuse WrongKind)
date_never_kind s e = subst (Within bad_or_out) e (date_within s)

pub day_never_kind : (s : Bytes) → ¬ (day_text s ≡ refuse WrongKind)
day_never_kind s e = subst (Within only_bad) e (day_within s)

-- ---- a day's text is a date's
-- A text that begins with a time is none of the first three forms.
pub time_no_day : (s : Bytes) → T (starts_like (ascii "0000-00-00T00:00:00") s) → day_text s ≡ refuse BadDate
unfolding day_text
time_no_day s h =
    let e = begins_length (ascii "0000-00-00T00:00:00") s h in
    simp (unlike (ascii "0000") s (omega arith), unlike (ascii "0000-00") s (omega arith), unlike (ascii "0000-00-00") s (omega arith))

ok_no_refusal : (t : ℤ) (f : Fault) → ¬ (ok t ≡ refuse f)
ok_no_refusal t f e = true→t false (ap is_ok (sym e))

pub day_is_date : (s : Bytes) (t : ℤ) → day_text s ≡ ok t → date_text s ≡ ok t
unfolding date_text
day_is_date s t e = go (starts_like (ascii "0000-00-00T00:00:00") s) refl
  where
    go : (b : Bool) → starts_like (ascii "0000-00-00T00:00:00") s ≡ b → cond b (time_text s) (day_text s) ≡ ok t
    go true f = absurd (ok_no_refusal t BadDate (sym e ∙ time_no_day s (true→t _ f)))
    go false f = e

pub is_day→is_date : (s : Bytes) → T (is_day s) → T (is_date s)
is_day→is_date s h = go (day_text s) refl h
  where
    go : (r : Result ℤ) → day_text s ≡ r → T (is_ok r) → T (is_date s)
    go (ok t) e h = rw (day_is_date s t e) tt
    go (refuse f) e h = absurd h

-- ---- offsets: clocks at +h run ahead of UTC, those at -h behind it
pub ahead_of_utc : date_text (ascii "2020-01-31T10:20:30+01:30") ≡ date_text (ascii "2020-01-31T08:50:30Z")
unfolding date_text after_seconds to_utc offset_digits starts_like months sum_first year_start
ahead_of_utc = refl

pub behind_utc : date_text (ascii "2020-01-31T10:20:30-130") ≡ date_text (ascii "2020-01-31T11:50:30")
unfolding date_text after_seconds to_utc offset_digits starts_like months sum_first year_start
behind_utc = refl
