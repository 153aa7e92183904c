-- Answer: an answer is known by what it says; an instant's text reads back; a shift's answer is in range.
use Rattle.std.specs.Prelude.{Result as Answer, Ok, Err, ◌≡◌, refl, Bool, true, false, ◌⊎◌, T, ℤ, pos, ◌+ℤ◌, ◌*ℤ◌}
use Rattle.std.proofs.Common.{sym, ◌∙◌, ap, inl, inr}
use Rattle.model.specs.DateText.{date_text}
use Rattle.model.specs.Instant.{in_range}
use Rattle.model.specs.InstantText.{instant_text}
use Rattle.model.specs.declared.refusal.Fault.TheVariants.{OutOfRange}
use Rattle.model.specs.Result.{ok, refuse, ◌>>=◌, provided}
use Rattle.model.specs.Shift.{shift}
use Rattle.model.proofs.Laws.DateText.{ranged_ok}
use Rattle.model.proofs.Laws.InstantText.{reads_back}
use Rattle.model.proofs.Laws.Shift.{shift_in_range, shift_none, days_twice, hours_twice, twelve_months, hours_24}
use Rattle.model.specs.declared.TimeUnit.{TimeUnit}
use Rattle.model.specs.declared.TimeUnit.TheVariants.{Year, Month, Day, Hour}
use Rattle.model.proofs.Laws.Logic.{clash}
use Rattle.calendar.specs.Contract.{instant_result, date_result, fault_of, shifted}
use Rattle.calendar.specs.declared.instant.DateFault.{DateFault}
use Rattle.calendar.specs.declared.instant.DateFault.TheVariants as Dated
use Rattle.calendar.specs.declared.instant.Instant.{Instant}
use Rattle.calendar.specs.declared.instant.OutOfRange.{OutOfRange as Out}

-- ---- what an answer says fixes it
same_instant : (t u : Instant) → t.ms ≡ u.ms → t ≡ u
same_instant t u e i = record { ms = e i }

pub instant_answer_once : (a b : Answer Instant Out) → instant_result a ≡ instant_result b → a ≡ b
instant_answer_once (Ok t) (Ok u) e = ap Ok (same_instant t u (cc))
instant_answer_once (Ok t) (Err x) e = cc
instant_answer_once (Err x) (Ok u) e = cc
instant_answer_once (Err x) (Err y) e = refl

pub date_answer_once : (a b : Answer Instant DateFault) → date_result a ≡ date_result b → a ≡ b
date_answer_once (Ok t) (Ok u) e = ap Ok (same_instant t u (cc))
date_answer_once (Ok t) (Err g) e = cc
date_answer_once (Err f) (Ok u) e = cc
date_answer_once (Err Dated.BadDate) (Err Dated.BadDate) e = refl
date_answer_once (Err Dated.BadDate) (Err Dated.OutOfRange) e = cc
date_answer_once (Err Dated.OutOfRange) (Err Dated.BadDate) e = cc
date_answer_once (Err Dated.OutOfRange) (Err Dated.OutOfRange) e = refl

-- ---- texts
pub text_again : (t : Instant) (r : Answer Instant DateFault) → T (in_range t.ms) → date_result r ≡ date_text (instant_text t.ms) → r ≡ Ok t
text_again t r h e = date_answer_once r (Ok t) (e ∙ reads_back t.ms h)

-- ---- shifts
-- Of an instant in range, and of any other:
pub own_in : (t a : ℤ) (u : TimeUnit) → T (in_range t) → shifted t a u ≡ shift t a u
own_in t a u h = rw (ranged_ok t h)

pub own_out : (t a : ℤ) (u : TimeUnit) → ¬ T (in_range t) → shifted t a u ≡ refuse OutOfRange
own_out t a u h = go (in_range t) h
  where
    go : (b : Bool) → ¬ T b → (provided b OutOfRange (ok t) >>= λ own. shift own a u) ≡ refuse OutOfRange
    go true h = absurd (h tt)
    go false h = refl

-- A shift by 0 changes nothing.
pub shift_zero : (t : ℤ) (u : TimeUnit) → T (in_range t) → shifted t (pos 0) u ≡ ok t
shift_zero t u h = own_in t (pos 0) u h ∙ shift_none t u h

shifted_ok : (t s a : ℤ) (u : TimeUnit) → shifted t a u ≡ ok s → T (in_range t) × (shift t a u ≡ ok s)
shifted_ok t s a u e = go (in_range t) e
  where
    go : (b : Bool) → (provided b OutOfRange (ok t) >>= λ own. shift own a u) ≡ ok s → T b × (shift t a u ≡ ok s)
    go true e = (tt, e)
    go false e = clash cc

-- A shift that is not refused gives an instant in range.
pub shift_answer_lem : (t a : ℤ) (u : TimeUnit) (r : Answer Instant Out) → instant_result r ≡ shifted t a u → ((e : Out) × (r ≡ Err e)) ⊎ ((s : Instant) × (r ≡ Ok s) × T (in_range s.ms))
shift_answer_lem t a u (Ok s) e = inr (s, refl, shift_in_range t a u s.ms (shifted_ok t s.ms a u (sym e)).1)
shift_answer_lem t a u (Err x) e = inl (x, refl)

-- What holds of two shifts of instants in range holds of `shifted`, where the first is not refused.
shifted_twice : (u : TimeUnit) → ((t s n m : ℤ) → shift t n u ≡ ok s → shift s m u ≡ shift t (n +ℤ m) u) → (t s n m : ℤ) → shifted t n u ≡ ok s → shifted s m u ≡ shifted t (n +ℤ m) u
shifted_twice u f t s n m e =
    let g = shifted_ok t s n u e in
    own_in s m u (shift_in_range t n u s g.1) ∙ (f t s n m g.1 ∙ sym (own_in t (n +ℤ m) u g.0))

pub days_add : (t s n m : ℤ) → shifted t n Day ≡ ok s → shifted s m Day ≡ shifted t (n +ℤ m) Day
days_add = shifted_twice Day days_twice

pub hours_add : (t s n m : ℤ) → shifted t n Hour ≡ ok s → shifted s m Hour ≡ shifted t (n +ℤ m) Hour
hours_add = shifted_twice Hour hours_twice

pub year_months : (t a : ℤ) → shifted t (a *ℤ pos 12) Month ≡ shifted t a Year
year_months t a = simp twelve_months

pub day_hours : (t a : ℤ) → shifted t (a *ℤ pos 24) Hour ≡ shifted t a Day
day_hours t a = simp hours_24
