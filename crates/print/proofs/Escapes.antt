-- Escapes.
use mathlib.Core.Path.{◌≡◌, refl, sym, ap, ap₂, ◌∙◌}
use mathlib.Core.Bool.{false}
use mathlib.Core.List.{[], ◌∷◌}
use Prim.Native.Nat.{ℕ, ◌+◌, ◌/◌, ◌%◌}
use native.Mathlib.Omega.{arith}
use lib.ListN.{set}
use Rattle.std.specs.Prelude.{None, Some}
use Rattle.model.specs.Bytes.{Bytes}
use Rattle.model.specs.Writing.{hex_digit, long_escape, escaped}
use Rattle.print.specs.Contract.{Put}
use Rattle.print.specs.Inner.{plain, letter_of}
use Rattle.print.specs.Laws.{put_byte, put_then, put_end, put_as, escaped_short, escaped_long}

-- A byte at the place after the last.
next : (x : ℕ) {at m : ℕ} {d d' : Bytes} → d' ≡ set d m x → m ≡ at → Put (x ∷ []) at d (at + 1) d'
next x {d = d} e f = put_byte (e ∙ ap (λ (k : ℕ). set d k x) f)

module _ (b : ℕ) {at : ℕ} {d : Bytes} where
  pub put_short : (c : ℕ) {d₁ d₂ : Bytes} → Some c ≡ letter_of b → d₁ ≡ set d at 0x5c → d₂ ≡ set d₁ (at + 1) c → Put (escaped b) at d (at + 2) d₂
  put_short c e p q = put_end (put_as (put_then (put_byte p) (put_byte q)) (sym (escaped_short b c (sym e)))) (omega arith)

  pub put_long : {x d₁ : Bytes} {r : ℕ} → plain b ≡ false → None ≡ letter_of b → x ≡ long_escape b → Put x at d r d₁ → Put (escaped b) at d r d₁
  put_long n z e p = put_as p (e ∙ sym (escaped_long b n (sym z)))

  -- All six bytes, one after the other.
  pub put_six : {h l : ℕ} → plain b ≡ false → None ≡ letter_of b → h ≡ hex_digit (b / 16) → l ≡ hex_digit (b % 16)
      → Put (escaped b) at d (at + 6) (set (set (set (set (set (set d at 0x5c) (at + 1) 0x75) (at + 2) 0x30) (at + 3) 0x30) (at + 4) h) (at + 5) l)
  put_six {h} {l} n z f g =
      let two = put_then (put_byte refl) (next 0x75 refl (omega arith)) in
      let three = put_then two (next 0x30 refl (omega arith)) in
      let four = put_then three (next 0x30 refl (omega arith)) in
      let five = put_then four (next h refl (omega arith)) in
      let six = put_then five (next l refl (omega arith)) in
      put_long n z (ap₂ (λ (x y : ℕ). 0x5c ∷ 0x75 ∷ 0x30 ∷ 0x30 ∷ x ∷ y ∷ []) f g) (put_end six (omega arith))
