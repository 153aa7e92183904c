-- What `chars` promises: the characters of a string by the definition `chars` of the crate syntax, read from a text s at an offset.
use Rattle.std.specs.Prelude.{◌≡◌, ℕ, ◌+◌, ◌≤◌, ◌<◌, length, get_or, drop, take, Result, Ok, Err}
use Rattle.std.proofs.lemmas.List.Edits.{sets}
use Rattle.model.specs.Bytes.{Bytes}
use Rattle.syntax.specs.Read.{Parsed, ok, bad, chars, clear}
use Rattle.scan.specs.Contract.{fault_of}
use Rattle.scan.specs.declared.Fault.{Fault}
use Rattle.chars.specs.declared.Decoded.{Decoded}

-- An end in the text and one in the area, as the code has them.
abbrev pub decoded : ℕ → ℕ → Decoded
decoded at used = record { at = at; used = used }

-- The characters bs from `at` up to the closing quote at q, decoded to `used`.
pub record CharsRead (s : Bytes) (at used : ℕ) (A bs u : Bytes) (q : ℕ) (r : Result Decoded Fault) (A' : Bytes) : Type 0 where
  pub answer : r ≡ Ok (decoded q (used + length bs))
  pub area : A' ≡ sets A used bs
  pub left : u ≡ drop q s
  pub on : at + length bs ≤ q
  pub inside : q < length s
  pub quote : get_or s q 0 ≡ 0x22

-- The answer, by what the parser gives.
abbrev pub CharsMeets : Bytes → ℕ → ℕ → Bytes → Parsed Bytes → Result Decoded Fault → Bytes → Type 0
CharsMeets s at used A (ok bs u q) r A' = CharsRead s at used A bs u q r A'
CharsMeets s at used A (bad k p) r A' = r ≡ Err (fault_of k p)

-- After a fault the area from `used` on is free: a caller clears it or reads over it.
pub record CharsPromise (s : Bytes) (at used : ℕ) (A : Bytes) (r : Result Decoded Fault) (A' : Bytes) : Type 0 where
  pub run : (f : ℕ) → length s < at + f → CharsMeets s at used A (chars f clear (drop at s) at) r A'
  pub size : length A' ≡ length A
  pub kept : take used A' ≡ take used A
