-- Words: a number below 2^32 as four bytes, the lowest first.
use Rattle.std.specs.Prelude.{List, [], ◌∷◌, ◌++◌, ℕ, ◌+◌, ◌*◌, ◌-◌, ◌/◌, ◌%◌, length, get_or, take, drop, replicate}

-- The four bytes of a number, without what is over 2^32.
unfoldable pub word : ℕ → List ℕ
word x = x % 256 ∷ x / 256 % 256 ∷ x / 65536 % 256 ∷ x / 16777216 % 256 ∷ []

-- The number that the four bytes at a place spell.
unfoldable pub word_at : List ℕ → ℕ → ℕ
word_at d at = get_or d at 0 + get_or d (at + 1) 0 * 256 + get_or d (at + 2) 0 * 65536 + get_or d (at + 3) 0 * 16777216

-- An area with zeros from a place on.
unfoldable pub zero_from : ℕ → List ℕ → List ℕ
zero_from n d = take n d ++ replicate (length d - n) 0

-- An area with zeros from a place on, up to another.
unfoldable pub zero_between : ℕ → ℕ → List ℕ → List ℕ
zero_between n m d = zero_from n (take m d) ++ drop m d
