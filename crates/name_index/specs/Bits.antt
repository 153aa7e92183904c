-- Bits: a name as a row of bits.
use Rattle.std.specs.Prelude.{◌≡◌, Bool, [], ◌∷◌, ℕ, zero, suc, ◌+◌, ◌-◌, ◌/◌, ◌%◌, ◌^◌, ◌<◌, eqb, take, drop}
use Rattle.model.specs.Bytes.{Bytes}

-- The bytes of an area from a place on, so many.
abbrev pub part : Bytes → ℕ → ℕ → Bytes
part A start len = take len (drop start A)

-- The symbol at a place of a name: its byte and 256, and 0 past its end.
unfoldable pub symbol_at : Bytes → ℕ → ℕ
symbol_at [] p = 0
symbol_at (x ∷ n) zero = 256 + x
symbol_at (x ∷ n) (suc p) = symbol_at n p

-- Each symbol is sixteen bits, the highest first; a bit's rank counts from the name's first.
unfoldable pub bit_at : Bytes → ℕ → Bool
bit_at n r = eqb (symbol_at n (r / 16) / 2 ^ (15 - r % 16) % 2) 1

-- Two names have the same bits below a rank.
abbrev pub Agree : ℕ → Bytes → Bytes → Type 0
Agree c m n = (r : ℕ) → r < c → bit_at m r ≡ bit_at n r

-- The first rank in which two names differ.
pub record Critical (m n : Bytes) (c : ℕ) : Type 0 where
  pub agree : Agree c m n
  pub differ : bit_at m c ≡ bit_at n c → ⊥
  pub small : c < 1073741824
