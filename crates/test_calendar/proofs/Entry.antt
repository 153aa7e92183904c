-- Entry: the entries' equations from what the calendar promises.
use mathlib.Core.Path.{◌≡◌, refl, ◌∙◌, ap}
use Rattle.std.specs.Prelude.{None, Some}
use Prim.Native.Nat.{ℕ}
use borrow.Author.Tests.{eq-eqb, ne_eqb}
use lib.IntN.{ℤ, pos}
use lib.ListN.{length}
use Rattle.model.specs.Bytes.{Bytes}
use Rattle.model.specs.Instant.{ranged}
use Rattle.model.specs.InstantText.{instant_text}
use Rattle.model.specs.declared.refusal.Fault.TheVariants.{OutOfRange}
use Rattle.model.specs.Result.{Result, ok, refuse, result_number}
use Rattle.model.specs.declared.TimeUnit.{TimeUnit}
use Rattle.calendar.specs.Contract.{shifted}
use Rattle.test_calendar.specs.Contract.{milliseconds_of, unit_of, shift_number, shift_ms, text_number, text_bytes}

-- The number and the milliseconds of a result,
abbrev pub Tells : Result ℤ → ℕ → ℤ → Type 0
Tells x r m = (r ≡ result_number x) × (m ≡ milliseconds_of x)

-- and of one that is equal.
pub tells : {x y : Result ℤ} {r : ℕ} {m : ℤ} → x ≡ y → Tells x r m → Tells y r m
tells e h = (h.0 ∙ ap result_number e, h.1 ∙ ap milliseconds_of e)

-- ---- shifts
module _ (from amount : ℤ) (unit : ℕ) where
  abbrev Shifts : ℕ → ℤ → Type 0
  Shifts r m = (r ≡ shift_number from amount unit) × (m ≡ shift_ms from amount unit)

  pub no_unit : None ≡ unit_of unit → Shifts 1 (pos 0)
  no_unit e = rw (← e) (refl, refl)

  pub told : (u : TimeUnit) → Some u ≡ unit_of unit → {x : Result ℤ} {r : ℕ} {m : ℤ} → x ≡ shifted from amount u → Tells x r m → Shifts r m
  told u e f h = rw (← e) (tells f h)

-- ---- texts
module _ (ms : ℤ) (area : Bytes) where
  abbrev Writes : ℕ → Bytes → Type 0
  Writes r area' = (r ≡ text_number ms area) × (area' ≡ text_bytes ms area)

  -- An area of another length.
  pub no_area : (length area ≡ 24 → ⊥) → Writes 1 area
  no_area h = rw (ne_eqb (length area) 24 h) (refl, refl)

  module _ (h : length area ≡ 24) {ms' : ℤ} (f : ms' ≡ ms) where
    pub text_out : refuse OutOfRange ≡ ranged ms' → Writes 9 area
    text_out o = rw (eq-eqb (length area) 24 h, ← (o ∙ ap ranged f)) (refl, refl)

    pub text_in : {t : ℤ} {text : Bytes} → ok t ≡ ranged ms' → text ≡ instant_text t → Writes 0 text
    text_in o w = rw (eq-eqb (length area) 24 h, ← (o ∙ ap ranged f)) (refl, w)
