-- Texts: an instant's text, from the milliseconds since 0000-01-01 and the date.
use mathlib.Core.Path.{◌≡◌, ap, ◌∙◌}
use Prim.Native.Nat.{ℕ, ◌/◌, ◌%◌}
use lib.IntN.{ℤ}
use Rattle.model.specs.Calendar.{date_of_day}
use Rattle.model.specs.Instant.{ms_per_day, since_year0}
use Rattle.model.specs.InstantText.{instant_text}
use Rattle.model.specs.declared.Date.{Date}
use Rattle.instants.specs.Inner.{text_of}

pub text_of_lem : (t : ℤ) (since : ℕ) (w : Date) → since ≡ since_year0 t → w ≡ date_of_day (since / ms_per_day) → text_of w (since % ms_per_day) ≡ instant_text t
unfolding instant_text
text_of_lem t since w e f = ap (λ (v : Date). text_of v (since % ms_per_day)) f ∙ ap (λ (u : ℕ). text_of (date_of_day (u / ms_per_day)) (u % ms_per_day)) e
