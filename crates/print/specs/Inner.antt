-- Inner: what the private functions do.
use Rattle.std.specs.Prelude.{◌≡◌, Bool, ◌&&◌, not, cond, Option, None, Some, ℕ, ◌-◌, ◌≤◌, ◌<◌, ltb, eqb, length, take, drop}
use Rattle.model.specs.Bytes.{Bytes}
use Rattle.model.specs.Writing.{decimal, escaped_all}
use Rattle.print.specs.declared.decimal.Digits.{Digits}
use Rattle.print.specs.declared.string.Move.{Move}
use Rattle.print.specs.Contract.{Put, farthest}

-- The digits of a number stand at the end of 20 bytes.
pub record Ends (n : ℕ) (r : Digits) : Type 0 where
  pub inside : r.start ≤ 20
  pub size : length r.bytes ≡ 20
  pub text : drop r.start r.bytes ≡ decimal n

-- A byte that stands as it is.
abbrev pub plain : ℕ → Bool
plain b = not (ltb b 0x20) && (not (eqb b 0x22) && not (eqb b 0x5c))

-- The letter of a short escape; none for a byte that has none.
abbrev pub letter_of : ℕ → Option ℕ
letter_of b =
    cond (eqb b 8) (Some 98)
    (cond (eqb b 9) (Some 116)
    (cond (eqb b 10) (Some 110)
    (cond (eqb b 12) (Some 102)
    (cond (eqb b 13) (Some 114)
    (cond (eqb b 34) (Some 34)
    (cond (eqb b 92) (Some 92)
    None))))))

-- Before the string's end.
pub record StringAt (s : Bytes) (here : Move) : Type 0 where
  pub inside : here.from < length s
  pub near : here.at ≤ farthest

-- The bytes from one place to another, with their escapes.
pub record Moved (s : Bytes) (here : Move) (d : Bytes) (r : Move) (d' : Bytes) : Type 0 where
  pub on : here.from < r.from
  pub inside : r.from ≤ length s
  pub put : Put (escaped_all (take (r.from - here.from) (drop here.from s))) here.at d r.at d'
