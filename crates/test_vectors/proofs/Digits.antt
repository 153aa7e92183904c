-- Digits: the digits of a number, and the byte behind it.
use mathlib.Core.Path.{◌≡◌, refl, sym, ◌∙◌}
use mathlib.Core.Bool.{Bool, true, false, ◌&&◌, and-false}
use Prim.Native.Nat.{ℕ, ◌+◌, ◌*◌, ◌-◌, ◌/◌, ◌^◌, ◌≤◌, ◌<◌}
use native.Mathlib.Numerals.{add-one}
use native.Mathlib.Omega.{arith}
use borrow.Author.Tests.{ltb-true, leb-true, leb-false, lt-ltb, le-ltb, le-leb, lt-leb}
use lib.Dec.{ltb, leb}
use lib.ListN.{length, get_or, drop, drop_of_length-le}
use lib.Seq.{drop-cons}
use Rattle.model.specs.Bytes.{Bytes, is_digit, digit_value}
use Rattle.model.proofs.Laws.Logic.{both}
use Rattle.test_vectors.specs.declared.Number.{Number}
use Rattle.test_vectors.specs.Cases.{takes_digit, digits_from, number_at}

-- ---- a digit
pub below_digits : (n x : ℕ) → x < 48 → false ≡ takes_digit n x
below_digits n x h = rw (lt-leb 48 x h)

pub above_digits : (n x : ℕ) → 57 < x → false ≡ takes_digit n x
above_digits n x h = rw (lt-leb x 57 h, and-false (leb 48 x))

fits_test : (n d : ℕ) → d ≤ 9 → leb n ((18446744073709551615 - d) / 10) ≡ ltb (n * 10 + d) (2 ^ 64)
fits_test n d h = go (leb n ((18446744073709551615 - d) / 10)) refl
  where
    go : (t : Bool) → leb n ((18446744073709551615 - d) / 10) ≡ t → leb n ((18446744073709551615 - d) / 10) ≡ ltb (n * 10 + d) (2 ^ 64)
    go true e = e ∙ sym (lt-ltb (n * 10 + d) (2 ^ 64) (let l = leb-true n ((18446744073709551615 - d) / 10) e in omega arith))
    go false e = e ∙ sym (le-ltb (n * 10 + d) (2 ^ 64) (let l = leb-false n ((18446744073709551615 - d) / 10) e in omega arith))

pub a_digit : (n x : ℕ) → 48 ≤ x → x ≤ 57 → leb n ((18446744073709551615 - (x - 48)) / 10) ≡ takes_digit n x
a_digit n x l h = rw (le-leb 48 x l, le-leb x 57 h) (fits_test n (x - 48) (omega arith))

-- What a digit that is taken is known to be.
pub record Taken (n x : ℕ) : Type 0 where
  pub low : 48 ≤ x
  pub fits : n * 10 + (x - 48) < 2 ^ 64

pub taken : (n x : ℕ) → takes_digit n x ≡ true → Taken n x
taken n x e =
    let d = both (is_digit x) (ltb (n * 10 + digit_value x) (2 ^ 64)) e in
    record { low = leb-true 48 x (both (leb 48 x) (leb x 57) d.0).0; fits = ltb-true (n * 10 + digit_value x) (2 ^ 64) d.1 }

-- ---- the loop
-- The digits before place i make the number n.
pub record ReadTo (s : Bytes) (at n i : ℕ) : Type 0 where
  pub is : number_at s at ≡ digits_from n i (drop i s)

pub number_begins : (s : Bytes) (at : ℕ) → ReadTo s at 0 at
unfolding number_at
number_begins s at = record { is = refl }

module _ {s : Bytes} {at n i : ℕ} (read : ReadTo s at n i) where
  pub number_stops : i < length s → takes_digit n (get_or s i 0) ≡ false → ◌≡◌ {A = Number} (record { value = n; end = i + 1 }) (number_at s at)
  number_stops h e = rw (read.is, drop-cons s i 0 h, e, add-one)

  pub number_goes : i < length s → takes_digit n (get_or s i 0) ≡ true → {m : ℕ} → m ≡ n * 10 + digit_value (get_or s i 0) → ReadTo s at m (i + 1)
  number_goes h e is = record { is = rw (is, add-one) (read.is ∙ rw (drop-cons s i 0 h, e)) }

  pub number_ends : length s ≤ i → ◌≡◌ {A = Number} (record { value = n; end = i }) (number_at s at)
  number_ends h = rw (read.is, drop_of_length-le s h)
