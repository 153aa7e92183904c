-- Bits: the bits of a number of words tell the types that it names; of no type at all it is 0.
use Rattle.std.specs.Prelude.{Bool, true, false, cond, [], ◌∷◌, ◌≡◌, refl, ℕ, ◌+◌, ◌*◌, ◌/◌, ◌%◌, ◌≤◌}
use Rattle.std.proofs.Common.{sym, ap, ◌∙◌, arith}
use Rattle.model.proofs.Laws.Logic.{T→true, clash}
use Rattle.model.proofs.Laws.Types.{same_ty_refl}
use Rattle.model.specs.Types.{Types, is_in, same_ty, type_bits}
use Rattle.model.specs.declared.Ty.{Ty}
use Rattle.model.specs.declared.Ty.TheVariants as Ty
use Rattle.promises.specs.Words.{bit_of}

abbrev digit : Bool → ℕ
digit b = cond b 1 0

digit_small : (b : Bool) → digit b ≤ 1
digit_small true = omega arith
digit_small false = omega arith

scaled : (b : Bool) (n : ℕ) → cond b n 0 ≡ n * digit b
scaled true n = omega arith
scaled false n = omega arith

-- Eleven digits of two.
pub record Digits (n : ℕ) (a b c d e f g h i j k : ℕ) : Type 0 where
  pub is : n ≡ a + (2 * b + (4 * c + (8 * d + (16 * e + (32 * f + (64 * g + (128 * h + (256 * i + (512 * j + 1024 * k)))))))))
  pub small_a : a ≤ 1
  pub small_b : b ≤ 1
  pub small_c : c ≤ 1
  pub small_d : d ≤ 1
  pub small_e : e ≤ 1
  pub small_f : f ≤ 1
  pub small_g : g ≤ 1
  pub small_h : h ≤ 1
  pub small_i : i ≤ 1
  pub small_j : j ≤ 1
  pub small_k : k ≤ 1

-- The bits of a list of types are whether it has each.
type_bits_digits : (ts : Types) → Digits (type_bits ts) (digit (is_in ts Ty.Null)) (digit (is_in ts Ty.Boolean)) (digit (is_in ts Ty.Integer)) (digit (is_in ts Ty.String)) (digit (is_in ts Ty.Date)) (digit (is_in ts Ty.Day)) (digit (is_in ts Ty.Integers)) (digit (is_in ts Ty.Strings)) (digit (is_in ts Ty.Array)) (digit (is_in ts Ty.Object)) (digit (is_in ts Ty.Instant))
type_bits_digits ts = record {
  is = omega (arith, scaled (is_in ts Ty.Null) 1, scaled (is_in ts Ty.Boolean) 2, scaled (is_in ts Ty.Integer) 4, scaled (is_in ts Ty.String) 8, scaled (is_in ts Ty.Date) 16, scaled (is_in ts Ty.Day) 32, scaled (is_in ts Ty.Integers) 64, scaled (is_in ts Ty.Strings) 128, scaled (is_in ts Ty.Array) 256, scaled (is_in ts Ty.Object) 512, scaled (is_in ts Ty.Instant) 1024);
  small_a = digit_small (is_in ts Ty.Null);
  small_b = digit_small (is_in ts Ty.Boolean);
  small_c = digit_small (is_in ts Ty.Integer);
  small_d = digit_small (is_in ts Ty.String);
  small_e = digit_small (is_in ts Ty.Date);
  small_f = digit_small (is_in ts Ty.Day);
  small_g = digit_small (is_in ts Ty.Integers);
  small_h = digit_small (is_in ts Ty.Strings);
  small_i = digit_small (is_in ts Ty.Array);
  small_j = digit_small (is_in ts Ty.Object);
  small_k = digit_small (is_in ts Ty.Instant);
}

module _ {n a b c d e f g h i j k : ℕ} (x : Digits n a b c d e f g h i j k) where
  digit_0 : n / 1 % 2 ≡ a
  digit_0 = omega (arith, x)

  digit_1 : n / 2 % 2 ≡ b
  digit_1 = omega (arith, x)

  digit_2 : n / 4 % 2 ≡ c
  digit_2 = omega (arith, x)

  digit_3 : n / 8 % 2 ≡ d
  digit_3 = omega (arith, x)

  digit_4 : n / 16 % 2 ≡ e
  digit_4 = omega (arith, x)

  digit_5 : n / 32 % 2 ≡ f
  digit_5 = omega (arith, x)

  digit_6 : n / 64 % 2 ≡ g
  digit_6 = omega (arith, x)

  digit_7 : n / 128 % 2 ≡ h
  digit_7 = omega (arith, x)

  digit_8 : n / 256 % 2 ≡ i
  digit_8 = omega (arith, x)

  digit_9 : n / 512 % 2 ≡ j
  digit_9 = omega (arith, x)

  digit_10 : n / 1024 % 2 ≡ k
  digit_10 = omega (arith, x)

-- So the bit of a type tells whether it is there.
pub bit_tells : (ts : Types) (k : Ty) → bit_of (type_bits ts) k ≡ cond (is_in ts k) 1 0
bit_tells ts Ty.Null = digit_0 (type_bits_digits ts)
bit_tells ts Ty.Boolean = digit_1 (type_bits_digits ts)
bit_tells ts Ty.Integer = digit_2 (type_bits_digits ts)
bit_tells ts Ty.String = digit_3 (type_bits_digits ts)
bit_tells ts Ty.Date = digit_4 (type_bits_digits ts)
bit_tells ts Ty.Day = digit_5 (type_bits_digits ts)
bit_tells ts Ty.Integers = digit_6 (type_bits_digits ts)
bit_tells ts Ty.Strings = digit_7 (type_bits_digits ts)
bit_tells ts Ty.Array = digit_8 (type_bits_digits ts)
bit_tells ts Ty.Object = digit_9 (type_bits_digits ts)
bit_tells ts Ty.Instant = digit_10 (type_bits_digits ts)

-- A set that has a type has a bit.
zero_bit : (k : Ty) → bit_of 0 k ≡ 0
zero_bit Ty.Null = refl
zero_bit Ty.Boolean = refl
zero_bit Ty.Integer = refl
zero_bit Ty.String = refl
zero_bit Ty.Date = refl
zero_bit Ty.Day = refl
zero_bit Ty.Integers = refl
zero_bit Ty.Strings = refl
zero_bit Ty.Array = refl
zero_bit Ty.Object = refl
zero_bit Ty.Instant = refl

pub bits_some : (ts : Types) → ¬ (ts ≡ []) → ¬ (type_bits ts ≡ 0)
bits_some [] h e = h refl
bits_some (k ∷ ts) h e =
    let there : is_in (k ∷ ts) k ≡ true = rw (T→true (same_ty k k) (same_ty_refl k)) in
    let one : bit_of (type_bits (k ∷ ts)) k ≡ 1 = bit_tells (k ∷ ts) k ∙ ap (λ (b : Bool). cond b 1 0) there in
    let none : bit_of (type_bits (k ∷ ts)) k ≡ 0 = ap (λ (n : ℕ). bit_of n k) e ∙ zero_bit k in
    clash (sym none ∙ one)
