-- The UTF-8 of a code point, by its size and as stores in an area. Assumes nothing.
use mathlib.Core.Path.{◌≡◌, ap}
use mathlib.Core.List.{[], ◌∷◌}
use Prim.Native.Nat.{ℕ, ◌+◌, ◌/◌, ◌%◌, ◌≤◌, ◌<◌}
use native.Mathlib.Omega.{arith}
use native.Mathlib.Numerals.{add-one, add-two, add-three}
use borrow.Author.Tests.{lt-ltb, le-ltb}
use lib.ListN.{length, set}
use Rattle.model.specs.Bytes.{Bytes}
use Rattle.syntax.specs.Utf8.{utf8}
use Rattle.chars.specs.Inner.{Put}

module _ (u : ℕ) where
  utf8_one : u < 128 → utf8 u ≡ u ∷ []
  unfolding utf8
  utf8_one h = simp (utf8, lt-ltb u 128 h)

  utf8_two : 128 ≤ u → u < 2048 → utf8 u ≡ (192 + u / 64) ∷ (128 + u % 64) ∷ []
  unfolding utf8
  utf8_two h l = simp (utf8, le-ltb u 128 h, lt-ltb u 2048 l)

  utf8_three : 2048 ≤ u → u < 65536 → utf8 u ≡ (224 + u / 4096) ∷ (128 + u / 64 % 64) ∷ (128 + u % 64) ∷ []
  unfolding utf8
  utf8_three h l = simp (utf8, le-ltb u 128 (omega arith), le-ltb u 2048 h, lt-ltb u 65536 l)

  utf8_four : 65536 ≤ u → utf8 u ≡ (240 + u / 262144) ∷ (128 + u / 4096 % 64) ∷ (128 + u / 64 % 64) ∷ (128 + u % 64) ∷ []
  unfolding utf8
  utf8_four h = simp (utf8, le-ltb u 128 (omega arith), le-ltb u 2048 (omega arith), le-ltb u 65536 h)

  pub size_one : u < 128 → length (utf8 u) ≡ 1
  size_one h = ap length (utf8_one h)

  pub size_two : 128 ≤ u → u < 2048 → length (utf8 u) ≡ 2
  size_two h l = ap length (utf8_two h l)

  pub size_three : 2048 ≤ u → u < 65536 → length (utf8 u) ≡ 3
  size_three h l = ap length (utf8_three h l)

  pub size_four : 65536 ≤ u → length (utf8 u) ≡ 4
  size_four h = ap length (utf8_four h)

-- What the code's stores put.
module _ (A : Bytes) (used u : ℕ) where
  pub put_one : u < 128 → Put A used u (used + 1) (set A used u)
  put_one h = record { end = rw (size_one u h); area = rw (utf8_one u h) }

  pub put_two : 128 ≤ u → u < 2048 → Put A used u (used + 2) (set (set A used (192 + u / 64)) (used + 1) (128 + u % 64))
  put_two h l = record { end = rw (size_two u h l); area = rw (utf8_two u h l, add-one used) }

  pub put_three : 2048 ≤ u → u < 65536
      → Put A used u (used + 3) (set (set (set A used (224 + u / 4096)) (used + 1) (128 + u / 64 % 64)) (used + 2) (128 + u % 64))
  put_three h l = record { end = rw (size_three u h l); area = rw (utf8_three u h l, add-one used, add-two used) }

  pub put_four : 65536 ≤ u
      → Put A used u (used + 4)
      (set (set (set (set A used (240 + u / 262144)) (used + 1) (128 + u / 4096 % 64)) (used + 2) (128 + u / 64 % 64)) (used + 3) (128 + u % 64))
  put_four h = record { end = rw (size_four u h); area = rw (utf8_four u h, add-one used, add-two used, add-three used) }
