-- Shapes: a text shorter than a shape, and the digits at a place of one.
use mathlib.Core.Path.{◌≡◌, refl}
use mathlib.Core.Bool.{false, and-false}
use mathlib.Core.List.{[], ◌∷◌}
use Prim.Native.Nat.{ℕ, zero, suc, ◌-◌, ◌<◌}
use native.Mathlib.Omega.{arith}
use lib.ListN.{length, drop, take, length-drop}
use lib.Seq.{take_all}
use Rattle.std.specs.Prelude.{pos, Some}
use Rattle.model.specs.Bytes.{Bytes}
use Rattle.model.specs.DateText.{fits_byte, starts_like, digit_at, fraction_digit, to_utc}

-- ---- a shape and a text
-- A shorter text does not begin with a shape.
pub begins_short : (p s : Bytes) → length s < length p → starts_like p s ≡ false
unfolding starts_like
begins_short [] s h = absurd (omega arith)
begins_short (x ∷ p) [] h = refl
begins_short (x ∷ p) (y ∷ s) h = rw (begins_short p s (omega arith)) (and-false (fits_byte x y))

-- What `&text[k..]` lends, and what it is.
abbrev pub lent : ℕ → Bytes → Bytes
lent k s = take (length s - k) (drop k s)

pub lent_is : (k : ℕ) (s : Bytes) → lent k s ≡ drop k s
lent_is k s = take_all (length s - k) (drop k s) (rw length-drop (omega arith))

-- ---- the digits at a place
-- What stands past the end counts as 0 either way.
pub digit_default : (s : Bytes) (i : ℕ) → fraction_digit s i ≡ digit_at s i
digit_default [] i = refl
digit_default (x ∷ s) zero = refl
digit_default (x ∷ s) (suc i) = digit_default s i

-- ---- no offset
pub no_offset : (s : Bytes) → length s ≡ 0 → to_utc s ≡ Some (pos 0)
unfolding to_utc starts_like
no_offset [] e = refl
no_offset (x ∷ s) e = absurd (omega arith)
