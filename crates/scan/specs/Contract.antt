-- What the functions of this crate promise: the tokens of specs/Read.antt of the crate syntax, read from a text s at an offset.
use Rattle.std.specs.Prelude.{◌≡◌, Bool, true, false, [], ◌∷◌, ℕ, suc, ◌≤◌, ◌<◌, ltb, eqb, ℤ, length, get_or, drop, Option, None, Some, Result, Ok, Err}
use Rattle.model.specs.Bytes.{Bytes}
use Rattle.model.specs.Limits.{max_values, max_nesting}
use Rattle.model.specs.declared.refusal.ReadFault.{ReadFault}
use Rattle.model.specs.Value.{Value, scalar, null, boolean, integer}
use Rattle.syntax.specs.declared.Start.{Start}
use Rattle.syntax.specs.declared.Start.TheVariants.{NoValue, TooMuch, Literal, Minus, Digit, Quote, Bracket, Brace}
use Rattle.syntax.specs.declared.Word.{Word}
use Rattle.syntax.specs.declared.Word.TheVariants.{TrueWord, FalseWord, NullWord}
use Rattle.syntax.specs.declared.Separator.{Separator}
use Rattle.syntax.specs.declared.Separator.TheVariants.{Comma, Close, Neither}
use Rattle.syntax.specs.Layout.{biased}
use Rattle.syntax.specs.Read.{Parsed, ok, bad}
use Rattle.syntax.specs.Tokens.{is_white, is_digit, digit_value, start_of, separator_of}
use Rattle.scan.specs.declared.Fault.{Fault}
use Rattle.scan.specs.declared.number.Numeral.{Numeral}

-- A parser's fault as the code has it.
abbrev pub fault_of : ReadFault → ℕ → Fault
fault_of k p = record { reason = k; at = p }

-- ---- white space
-- The offset after the white space with which t, at an offset, begins.
unfoldable pub end_white : Bytes → ℕ → ℕ
end_white [] at = at
end_white (b ∷ t) at = elim (is_white b) [ true ↦ end_white t (suc at) | false ↦ at ]

pub record Skipped (s : Bytes) (at r : ℕ) : Type 0 where
  pub is : r ≡ end_white (drop at s) at
  pub on : at ≤ r
  pub inside : at ≤ length s → r ≤ length s

-- ---- decisions by the byte at an offset
unfoldable pub start_at : Bytes → ℕ → ℕ → ℕ → Start
start_at s row depth at = elim (ltb at (length s)) [ true ↦ start_of row depth (get_or s at 0) | false ↦ NoValue ]

-- What is known where a value begins.
abbrev pub StartRoom : Bytes → ℕ → ℕ → ℕ → Start → Type 0
StartRoom s row depth at NoValue = Unit {0}
StartRoom s row depth at TooMuch = Unit {0}
StartRoom s row depth at (Literal w) = (at < length s) × (row < max_values)
StartRoom s row depth at Minus = (at < length s) × (row < max_values)
StartRoom s row depth at Digit = (at < length s) × (row < max_values)
StartRoom s row depth at Quote = (at < length s) × (row < max_values)
StartRoom s row depth at Bracket = (at < length s) × (row < max_values) × (depth < max_nesting)
StartRoom s row depth at Brace = (at < length s) × (row < max_values) × (depth < max_nesting)

pub record Started (s : Bytes) (row depth at : ℕ) (r : Start) : Type 0 where
  pub is : r ≡ start_at s row depth at
  pub room : StartRoom s row depth at r

-- A digit's number, if the byte is one.
unfoldable pub decimal_of : ℕ → Option ℕ
decimal_of b = elim (is_digit b) [ true ↦ Some (digit_value b) | false ↦ None ]

unfoldable pub separator_at : Bytes → ℕ → ℕ → Separator
separator_at s close at = elim (ltb at (length s)) [ true ↦ separator_of close (get_or s at 0) | false ↦ Neither ]

abbrev pub SeparatorRoom : Bytes → ℕ → Separator → Type 0
SeparatorRoom s at Comma = at < length s
SeparatorRoom s at Close = at < length s
SeparatorRoom s at Neither = Unit {0}

pub record Separated (s : Bytes) (close at : ℕ) (r : Separator) : Type 0 where
  pub is : r ≡ separator_at s close at
  pub room : SeparatorRoom s at r

unfoldable pub stands_at : Bytes → ℕ → ℕ → Bool
stands_at s at b = elim (ltb at (length s)) [ true ↦ eqb (get_or s at 0) b | false ↦ false ]

pub record Stands (s : Bytes) (at b : ℕ) (r : Bool) : Type 0 where
  pub is : r ≡ stands_at s at b
  pub room : r ≡ true → at < length s

-- ---- literals
abbrev pub word_value : Word → Value
word_value TrueWord = scalar (boolean true)
word_value FalseWord = scalar (boolean false)
word_value NullWord = scalar null

-- A literal that ends at q.
pub record LiteralRead (s : Bytes) (at : ℕ) (w : Word) (v : Value) (u : Bytes) (q : ℕ) (r : Result ℕ Fault) : Type 0 where
  pub answer : r ≡ Ok q
  pub is : v ≡ word_value w
  pub left : u ≡ drop q s
  pub on : at < q
  pub inside : q ≤ length s

-- The answer, by what the parser gives.
abbrev pub LiteralMeets : Bytes → ℕ → Word → Parsed Value → Result ℕ Fault → Type 0
LiteralMeets s at w (ok v u q) r = LiteralRead s at w v u q r
LiteralMeets s at w (bad k p) r = r ≡ Err (fault_of k p)

-- ---- numbers
-- The integer z as the code has it, which ends at q.
abbrev pub numeral : ℕ → ℤ → Numeral
numeral q z = record { at = q; biased = biased z }

pub record NumberRead (s : Bytes) (at : ℕ) (v : Value) (u : Bytes) (q : ℕ) (r : Result Numeral Fault) : Type 0 where
  pub z : ℤ
  pub is : v ≡ scalar (integer z)
  pub answer : r ≡ Ok (numeral q z)
  pub left : u ≡ drop q s
  pub on : at < q
  pub inside : q ≤ length s

-- The answer, by what the parser gives.
abbrev pub NumberMeets : Bytes → ℕ → Parsed Value → Result Numeral Fault → Type 0
NumberMeets s at (ok v u q) r = NumberRead s at v u q r
NumberMeets s at (bad k p) r = r ≡ Err (fault_of k p)
