-- What the functions inside this crate promise one another.
use Rattle.std.specs.Prelude.{◌≡◌, Bool, [], ◌∷◌, ℕ, ◌+◌, ◌≤◌, ◌<◌, ℤ, length, drop, slice_get, Option, Result, Ok, Err}
use Rattle.std.specs.Option.{option_and_then}
use Rattle.model.specs.Bytes.{Bytes}
use Rattle.model.specs.Value.{Value, scalar, integer}
use Rattle.syntax.specs.Read.{Parsed, ok, bad, Parser, expect, signed, end_number}
use Rattle.scan.specs.Contract.{fault_of, decimal_of, numeral, NumberMeets}
use Rattle.scan.specs.declared.Fault.{Fault}
use Rattle.scan.specs.declared.number.Numeral.{Numeral}

-- ---- literals
-- The bytes w for a result a, read up to q.
pub record ExpectRead (s : Bytes) (at : ℕ) (w : Bytes) (a v : Value) (u : Bytes) (q : ℕ) (r : Result ℕ Fault) : Type 0 where
  pub answer : r ≡ Ok q
  pub is : v ≡ a
  pub left : u ≡ drop q s
  pub end : q ≡ at + length w
  pub inside : 0 < length w → q ≤ length s

abbrev pub ExpectMeets : Bytes → ℕ → Bytes → Value → Parsed Value → Result ℕ Fault → Type 0
ExpectMeets s at w a (ok v u q) r = ExpectRead s at w a v u q r
ExpectMeets s at w a (bad k p) r = r ≡ Err (fault_of k p)

pub record Compared (s : Bytes) (at : ℕ) (w : Bytes) (r : Result ℕ Fault) : Type 0 where
  pub run : (a : Value) → ExpectMeets s at w a (expect w a (drop at s) at) r

-- ---- numbers
pub record Signed (at : ℕ) (negative : Bool) (n : ℕ) (r : Numeral) : Type 0 where
  pub z : ℤ
  pub is : signed negative n ≡ scalar (integer z)
  pub answer : r ≡ numeral at z

-- The end of the number n, where no digit of it stands.
unfoldable pub ending : Bool → ℕ → Parser Value
ending negative n [] at = ok (signed negative n) [] at
ending negative n (b ∷ t) at = end_number negative n b (b ∷ t) at

-- The number of the decimal digit at an offset, if one stands there.
unfoldable pub digit_at : Bytes → ℕ → Option ℕ
digit_at s at = option_and_then decimal_of (slice_get s at)

-- The rest of a number that began before `at`.
pub record Rest (s : Bytes) (at : ℕ) (m : Parsed Value) (r : Result Numeral Fault) : Type 0 where
  pub run : (from : ℕ) → from < at → NumberMeets s from m r
