-- WrittenNumbers: the text of an integer within the limits is a number of RFC 8259, and means that integer.
use Rattle.std.specs.Prelude.{◌≡◌, refl, Bool, true, false, [], ◌∷◌, ◌++◌, ℕ, zero, suc, ◌+◌, ◌*◌, ◌-◌, ◌/◌, ◌%◌, ◌≤◌, ◌<◌, T, ℤ, pos, negsuc, neg_ℤ}
use Rattle.std.proofs.Common.{sym, ap, ◌∙◌, append_assoc, arith, le-leb, lt-ltb, le-ltb, leb→le}
use Rattle.std.specs.Prelude.{Some}
use Rattle.std.proofs.Math.Decide.{dec_le}
use Rattle.std.specs.Int.Signed.{le_z}
use Rattle.model.specs.Bytes.{Bytes, digit_byte}
use Rattle.model.proofs.Laws.Logic.{and_l, and_r}
use Rattle.model.specs.Limits.{max_integer}
use Rattle.model.specs.Value.{scalar, integer, within_limits}
use Rattle.model.specs.Writing.{decimal_within, decimal, integer_text}
use Rattle.syntax.specs.Grammar.{Digits, no_digits, digit, Int, zero_int, int, spell_minus, spell_digits, spell_int, digits_number, int_number, limited}
use Rattle.syntax.specs.Read.{signed}
use Rattle.syntax.specs.Tokens.{is_digit, is_digit1_9}
use Rattle.syntax.proofs.Laws.Tokens.{bounds_within}

-- ---- digits
digit_is : (n : ℕ) → T (is_digit (digit_byte n))
unfolding is_digit
digit_is n = bounds_within 0x30 0x39 (digit_byte n) (omega arith) (omega arith)

digit_is_1_9 : (n : ℕ) → 1 ≤ n → n < 10 → T (is_digit1_9 (digit_byte n))
unfolding is_digit1_9
digit_is_1_9 n l h = bounds_within 0x31 0x39 (digit_byte n) (omega arith) (omega arith)

-- A derivation of the digits of n, which is not 0, with further digits behind them.
record Leading (text : Bytes) (n : ℕ) (ds : Digits) : Type 0 where
  tree : Int
  spells : (y : Bytes) → spell_int tree y ≡ text ++ spell_digits ds y
  means : int_number tree ≡ digits_number n ds

leading_digit : (n : ℕ) (ds : Digits) → 1 ≤ n → n < 10 → Leading (digit_byte n ∷ []) n ds
unfolding spell_int int_number
leading_digit n ds l h = record {
  tree = int (digit_byte n) (digit_is_1_9 n l h) ds;
  spells = λ y. refl;
  means = let e : 0x30 + n % 10 - 0x30 ≡ n = omega arith in ap (λ m. digits_number m ds) e;
}

leading : (k n : ℕ) (ds : Digits) → 1 ≤ n → n ≤ k → Leading (decimal_within k n) n ds
unfolding spell_digits digits_number
leading zero n ds l h = absurd (omega arith)
leading (suc k) n ds l h = elim (dec_le 10 n) [
  | no a ↦ rw (lt-ltb n 10 (omega arith)) (leading_digit n ds l (omega arith))
  | yes a ↦
      let more = leading k (n / 10) (digit (digit_byte n) (digit_is n) ds) (omega arith) (omega arith) in
      let e : n / 10 * 10 + (digit_byte n - 0x30) ≡ n = omega arith in
      rw (le-ltb n 10 a) (record {
        tree = more.tree;
        spells = λ y. more.spells y ∙ sym (append_assoc (decimal_within k (n / 10)) (digit_byte n ∷ []) (spell_digits ds y));
        means = more.means ∙ ap (λ m. digits_number m ds) e;
      })
]

-- ---- integers
-- A derivation of the text of an integer, with that meaning.
pub record DerivedInteger (z : ℤ) : Type 0 where
  pub negative : Bool
  pub digits : Int
  pub spells : (y : Bytes) → spell_minus negative (spell_int digits y) ≡ integer_text z ++ y
  pub means : limited negative (int_number digits) ≡ Some (scalar (integer z))

limited_some : (negative : Bool) (m n : ℕ) → m ≡ n → n ≤ max_integer → limited negative m ≡ Some (signed negative n)
unfolding limited
limited_some negative m n e h = ap (limited negative) e ∙ rw (le-leb n max_integer h, limited)

above_least : (m n : ℕ) → T (le_z (neg_ℤ (pos m)) (negsuc n)) → suc n ≤ m
above_least zero n h = absurd h
above_least (suc m) n h = omega (arith, leb→le n m h)

pub derived_integer : (z : ℤ) → T (within_limits z) → DerivedInteger z
unfolding decimal spell_minus spell_int spell_digits digits_number int_number signed
derived_integer (pos zero) h = record { negative = false; digits = zero_int; spells = λ y. refl; means = limited_some false 0 0 refl (omega arith) }
derived_integer (pos (suc n)) h =
    let l = leading (suc n) (suc n) no_digits (omega arith) (omega arith) in
    let within = leb→le (suc n) max_integer (and_r (le_z (neg_ℤ (pos max_integer)) (pos (suc n))) _ h) in
    record { negative = false; digits = l.tree; spells = l.spells; means = limited_some false (int_number l.tree) (suc n) l.means within }
derived_integer (negsuc n) h =
    let l = leading (suc n) (suc n) no_digits (omega arith) (omega arith) in
    let within = above_least max_integer n (and_l (le_z (neg_ℤ (pos max_integer)) (negsuc n)) _ h) in
    record { negative = true; digits = l.tree; spells = λ y. ap (λ s. 0x2D ∷ s) (l.spells y); means = limited_some true (int_number l.tree) (suc n) l.means within }
