-- Bytes: what a string or a name is once it is decoded, and what a text is.
use Rattle.std.specs.Prelude.{Bool, true, false, ◌&&◌, cond, List, [], ◌∷◌, ℕ, zero, suc, ◌+◌, ◌-◌, ◌%◌, eqb, leb}
use Prim.Native.Char.{code}
use Prim.Native.String.{String, len, char_at}

-- Bytes in UTF-8, each a number below 256.
abbrev pub Bytes : Type 0
Bytes = List ℕ

-- The bytes of a text in ASCII, as `ascii "var"`.
abbrev codes : ℕ → String → ℕ → Bytes
codes zero s i = []
codes (suc k) s i = code (char_at s i) ∷ codes k s (suc i)

abbrev pub ascii : String → Bytes
ascii s = codes (len s) s 0

-- The byte of a text that is one character in ASCII, as `byte "."`.
abbrev pub byte : String → ℕ
byte s = code (char_at s 0)

-- 01, Reading: "Names and strings are equal when their decoded UTF-8 bytes are."
abbrev pub same_bytes : Bytes → Bytes → Bool
same_bytes [] [] = true
same_bytes [] (y ∷ t) = false
same_bytes (x ∷ s) [] = false
same_bytes (x ∷ s) (y ∷ t) = eqb x y && same_bytes s t

abbrev pub is_digit : ℕ → Bool
is_digit x = leb (byte "0") x && leb x (byte "9")

-- The number that a digit stands for.
abbrev pub digit_value : ℕ → ℕ
digit_value x = x - byte "0"

-- A number's last decimal digit.
abbrev pub digit_byte : ℕ → ℕ
digit_byte n = byte "0" + n % 10

-- The fragments of a string between its separators. A string without a separator is one fragment, "" too.
abbrev pub cons_head : ℕ → List Bytes → List Bytes
cons_head x [] = (x ∷ []) ∷ []
cons_head x (f ∷ fs) = (x ∷ f) ∷ fs

abbrev pub split_on : (ℕ → Bool) → Bytes → List Bytes
split_on separator [] = [] ∷ []
split_on separator (x ∷ s) =
    let fragments = split_on separator s in
    cond (separator x) ([] ∷ fragments) (cons_head x fragments)
