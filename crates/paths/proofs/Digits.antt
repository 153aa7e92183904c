-- Digits: the loop over the digits of an index.
use mathlib.Core.Path.{◌≡◌, refl, sym, ap, ◌∙◌}
use mathlib.Core.Bool.{true, false}
use mathlib.Core.List.{[], ◌∷◌}
use Rattle.std.specs.Prelude.{Option, None, Some}
use Prim.Native.Nat.{ℕ, ◌+◌, ◌*◌, ◌-◌, ◌≤◌, ◌<◌}
use native.Mathlib.Numerals.{add-one}
use native.Mathlib.Omega.{arith}
use borrow.Author.Tests.{lt-ltb, le-ltb}
use lib.ListN.{length, get_or, drop, drop_of_length-le}
use lib.Seq.{drop-cons}
use Rattle.model.specs.Bytes.{Bytes, is_digit, digit_value}
use Rattle.model.specs.Option.{when}
use Rattle.model.specs.Path.{index_of, decimal_from}
use Rattle.model.proofs.Laws.Option.{when_some}
use Rattle.paths.specs.Contract.{limit, below_limit, index_in}
use Rattle.paths.specs.Inner.{plain}

-- ---- no leading zero
index_plain : (f : Bytes) → index_of f ≡ when (plain f) (decimal_from 0 f)
unfolding plain
index_plain [] = refl
index_plain (x ∷ []) = refl
index_plain (x ∷ y ∷ f) = refl

-- ---- the loop
no_index : (f : Bytes) → index_of f ≡ None → None ≡ index_in f
no_index f e = sym (ap below_limit e)

pub index_zero : (f : Bytes) → plain f ≡ false → None ≡ index_in f
index_zero f e = no_index f (index_plain f ∙ rw e)

-- The digits before place i make the number `at`.
pub record ReadTo (f : Bytes) (at i : ℕ) : Type 0 where
  pub within : i ≤ length f
  pub small : at < limit
  pub is : index_of f ≡ decimal_from at (drop i f)

pub index_begins : (f : Bytes) → plain f ≡ true → ReadTo f 0 0
index_begins f e = record { within = omega arith; small = omega arith; is = index_plain f ∙ rw e }

-- Further digits make a number no smaller.
decimal_grows : (t : Bytes) (n k : ℕ) → decimal_from n t ≡ Some k → n ≤ k
decimal_grows [] n k e = let s : n ≡ k = cc in omega arith
decimal_grows (x ∷ t) n k e =
    omega (arith, decimal_grows t (n * 10 + digit_value x) k (when_some (is_digit x) (decimal_from (n * 10 + digit_value x) t) e).1)

module _ {f : Bytes} {at i : ℕ} (read : ReadTo f at i) where
  pub index_ends : length f ≤ i → Some at ≡ index_in f
  index_ends l = sym (ap below_limit read.is ∙ rw (drop_of_length-le f l, lt-ltb at limit read.small))

  module _ (more : i < length f) where
    abbrev byte_here : ℕ
    byte_here = get_or f i 0

    pub index_stops : is_digit byte_here ≡ false → None ≡ index_in f
    index_stops e = no_index f (read.is ∙ rw (drop-cons f i 0 more, e))

    module _ (digit : is_digit byte_here ≡ true) where
      abbrev next : ℕ
      next = at * 10 + (byte_here - 48)

      goes_on : index_of f ≡ decimal_from next (drop (i + 1) f)
      goes_on = read.is ∙ rw (add-one, drop-cons f i 0 more, digit)

      pub index_past : limit ≤ next → None ≡ index_in f
      index_past l = sym (ap below_limit goes_on ∙ go (decimal_from next (drop (i + 1) f)) refl)
        where
          go : (o : Option ℕ) → decimal_from next (drop (i + 1) f) ≡ o → below_limit o ≡ None
          go None e = refl
          go (Some k) e = rw (le-ltb k limit (omega (arith, decimal_grows (drop (i + 1) f) next k e)))

      pub index_on : next < limit → ReadTo f next (i + 1)
      index_on l = record { within = omega arith; small = l; is = goes_on }
