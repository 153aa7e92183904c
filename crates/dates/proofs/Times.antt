-- Times: what follows the seconds, and a date with its time.
use mathlib.Core.Path.{◌≡◌, refl, sym, ◌∙◌, ap, subst}
use mathlib.Core.Bool.{Bool, true, false, ◌&&◌}
use Prim.Native.Nat.{ℕ, ◌+◌, ◌*◌, ◌≤◌, ◌<◌}
use borrow.Author.Tests.{lt-leb, le-leb}
use lib.IntN.{ℤ}
use lib.ListN.{take, drop}
use lib.Seq.{drop-drop}
use Rattle.model.specs.Bytes.{Bytes, ascii}
use Rattle.model.specs.Calendar.{day_number, is_valid}
use Rattle.model.specs.DateText.{starts_like, digit_run, milliseconds, zoned, after_seconds, two_digits, date_in, is_time, time_text, midnight}
use Rattle.model.specs.Instant.{from_year0, since_year0, ms_per_day, in_range}
use Rattle.model.proofs.Laws.DateText.{midnight_ok, since_bound, year_bound}
use Rattle.model.proofs.Laws.Logic.{true→t, clash}
use Rattle.model.specs.declared.refusal.Fault.{Fault}
use Rattle.model.specs.declared.refusal.Fault.TheVariants.{BadDate as bad_date, OutOfRange as out_of_range}
use Rattle.model.specs.Result.{Result, ok, refuse, provided}
use Rattle.model.specs.declared.Date.{Date}
use Rattle.calendar.specs.Contract.{date_result, fault_of}
use Rattle.calendar.proofs.Laws.Instant.{since_from}
use Rattle.std.specs.Prelude.{Result as Answer, Ok}
use Rattle.calendar.specs.declared.instant.DateFault.{DateFault}
use Rattle.calendar.specs.declared.instant.Instant.{Instant}
use Rattle.dates.proofs.Shapes.{lent, lent_is}

-- ---- what follows the seconds
pub no_fraction : (u : ℕ) (t : Bytes) → starts_like (ascii ".") t ≡ false → {r : Result ℤ} → r ≡ zoned u t → r ≡ after_seconds u t
unfolding after_seconds
no_fraction u t dot h = rw dot h

-- k is how many digits there are behind the dot.
module _ (u : ℕ) (t : Bytes) (k : ℕ) (dot : starts_like (ascii ".") t ≡ true) (run : k ≡ digit_run (lent 1 t)) where
  digits : digit_run (drop 1 t) ≡ k
  digits = ap digit_run (sym (lent_is 1 t)) ∙ sym run

  pub no_digits : k < 1 → refuse bad_date ≡ after_seconds u t
  unfolding after_seconds
  no_digits h = rw (dot, digits, lt-leb 1 k h)

  pub many_digits : 1 ≤ k → 9 < k → refuse bad_date ≡ after_seconds u t
  unfolding after_seconds
  many_digits h g = rw (dot, digits, le-leb 1 k h, lt-leb k 9 g)

  -- f is the digits, and z what follows them.
  pub some_digits :
      1 ≤ k
      → k ≤ 9
      → {f z : Bytes}
      → f ≡ take k (lent 1 t)
      → z ≡ drop k (lent 1 t)
      → {m : ℕ}
      → m ≡ milliseconds f
      → {r : Result ℤ}
      → r ≡ zoned (u + m) z
      → r ≡ after_seconds u t
  unfolding after_seconds
  some_digits h g {f} {z} front back e is =
      let fraction : f ≡ take k (drop 1 t) = front ∙ ap (take k) (lent_is 1 t) in
      let rest : z ≡ drop (1 + k) t = back ∙ ap (drop k) (lent_is 1 t) ∙ drop-drop k 1 t in
      rw (dot, digits, le-leb 1 k h, le-leb k 9 g) (is ∙ (λ i. zoned (u + (e ∙ ap milliseconds fraction) i) (rest i)))

-- ---- the start of a day
-- A date that starts at an instant, and the milliseconds since 0000-01-01 until then.
pub record Starts (w : Date) (u : ℕ) : Type 0 where
  pub valid : is_valid w ≡ true
  pub days : u ≡ day_number w * ms_per_day
  pub high : u ≤ 315569519999999

starts_at : (w : Date) (t : ℤ) → ok t ≡ midnight w → Starts w (since_year0 t)
starts_at w t e = go (is_valid w) refl (in_range (from_year0 n)) refl e
  where
    n : ℕ
    n = day_number w * ms_per_day

    go : (a : Bool) → is_valid w ≡ a → (b : Bool) → in_range (from_year0 n) ≡ b → ok t ≡ provided a bad_date (provided b out_of_range (ok (from_year0 n))) → Starts w (since_year0 t)
    go true v true i e =
        let d : t ≡ from_year0 n = cc in
        record { valid = v; days = ap since_year0 d ∙ since_from n; high = since_bound t (rw d (true→t _ i)) }
    go true v false i e = clash cc
    go false v b i e = clash cc

pub starts : {w v : Date} {a : Answer Instant DateFault} {t : Instant} {u : ℕ} → date_result a ≡ midnight v → v ≡ w → a ≡ Ok t → u ≡ since_year0 t.ms → Starts w u
starts {w} {t = t} e d f g = subst (Starts w) (sym g) (starts_at w t.ms (ap date_result (sym f) ∙ (e ∙ ap midnight d)))

-- A date up to year 9999 that starts at none is not valid.
no_start : (w : Date) (f : Fault) → refuse f ≡ midnight w → w.year ≤ 9999 → is_valid w ≡ false
no_start w f e h = go (is_valid w) refl
  where
    go : (a : Bool) → is_valid w ≡ a → is_valid w ≡ false
    go true v = let g = midnight_ok w (true→t _ v) h in clash cc
    go false v = v

-- ---- a date with its time
fails_second : (b : Bool) (r : Result ℤ) → refuse bad_date ≡ provided (b && false) bad_date r
fails_second true r = refl
fails_second false r = refl

module _ (s : Bytes) where
  -- A year of four digits is in range, so that a date that starts at none is a bad one.
  pub no_day : {w : Date} (f : DateFault) → refuse (fault_of f) ≡ midnight w → w ≡ date_in s → starts_like (ascii "0000-00-00T00:00:00") s ≡ true → refuse (fault_of f) ≡ time_text s
  no_day f e d h =
      let g = e ∙ ap midnight d in
      let v = no_start (date_in s) (fault_of f) g (year_bound (ascii "-00-00T00:00:00") s (true→t _ h)) in
      g ∙ rw v refl

  module _ {h m c : ℕ} (p : h ≡ two_digits s 11) (q : m ≡ two_digits s 14) (r : c ≡ two_digits s 17) where
    same_time : is_time (two_digits s 11) (two_digits s 14) (two_digits s 17) ≡ is_time h m c
    same_time = sym (λ i. is_time (p i) (q i) (r i))

    pub no_time : is_time h m c ≡ false → refuse bad_date ≡ time_text s
    no_time e = rw (same_time ∙ e) (fails_second (is_valid (date_in s)) _)

    pub at_time : is_time h m c ≡ true → {u : ℕ} → Starts (date_in s) u → {z : Result ℤ} → z ≡ after_seconds (u + ((h * 60 + m) * 60 + c) * 1000) (lent 19 s) → z ≡ time_text s
    at_time e {u} d f =
        rw (d.valid, same_time ∙ e) (f ∙ (λ i. after_seconds (d.days i + ((p i * 60 + q i) * 60 + r i) * 1000) (lent_is 19 s i)))
