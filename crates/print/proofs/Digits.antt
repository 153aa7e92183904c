-- The digits of a number, from the last to the first, at the end of 20 bytes.
use mathlib.Core.Path.{◌≡◌, refl, sym, ap, ◌∙◌}
use mathlib.Core.Bool.{Bool, true, false}
use mathlib.Core.List.{[], ◌∷◌, ◌++◌, append-nil, append_assoc}
use Prim.Native.Nat.{ℕ, suc, ◌-◌, ◌/◌, ◌%◌, ◌≤◌, ◌<◌}
use native.Mathlib.Nat.{div-div-eq-div-mul}
use native.Mathlib.Omega.{arith}
use borrow.Author.Tests.{ltb-true, ltb-false}
use lib.Dec.{ltb}
use lib.ListN.{length, take, drop, set, length-append, length-drop, length-set}
use lib.Seq.{take_all, drop-cons, drop-set-lt, get_or-set_same}
use Rattle.model.specs.Bytes.{Bytes, digit_byte}
use Rattle.model.specs.Writing.{decimal}
use Rattle.print.specs.declared.decimal.Digits.{Digits}
use Rattle.print.specs.Contract.{Put}
use Rattle.print.specs.Inner.{Ends}
use Rattle.print.specs.Laws.{put_as, decimal_digit, decimal_more, decimal_20}

-- A number has a digit, and one from ten on two.
some_digit : (n : ℕ) (t : Bool) → ltb n 10 ≡ t → 1 ≤ length (decimal n)
some_digit n true e = rw (decimal_digit n (ltb-true n 10 e)) (omega arith)
some_digit n false e = rw (decimal_more n (ltb-false n 10 e), length-append (decimal (n / 10)) (digit_byte n ∷ [])) (omega arith)

two_digits : (n : ℕ) → 10 ≤ n → 2 ≤ length (decimal n)
two_digits n h =
    rw (decimal_more n h, length-append (decimal (n / 10)) (digit_byte n ∷ [])) (omega (arith, some_digit (n / 10) (ltb (n / 10) 10) refl))

-- A byte in front of those from i + 1 on.
front : (l : Bytes) (i a : ℕ) → i < length l → drop i (set l i a) ≡ a ∷ drop (suc i) l
front l i a h = drop-cons (set l i a) i 0 (rw (length-set l i a) h) ∙ rw (get_or-set_same l i a 0 h, drop-set-lt (suc i) l i a (omega arith))

-- The two last digits of a number, from its remainder.
pub pair_last : (n : ℕ) {b : ℕ} → b ≡ digit_byte (n % 100) → b ≡ digit_byte n
pair_last n e = e ∙ omega arith

pub pair_first : (n : ℕ) {b : ℕ} → b ≡ digit_byte (n % 100 / 10) → b ≡ digit_byte (n / 10)
pair_first n e = e ∙ omega arith

-- ---- the loop: what is left of the number, in front of the digits from i on
pub record Filling (n : ℕ) (bytes : Bytes) (i rest : ℕ) : Type 0 where
  pub few : length (decimal n) ≤ 20
  pub inside : i ≤ 20
  pub size : length bytes ≡ 20
  pub text : decimal n ≡ decimal rest ++ drop i bytes

pub filling_none : (n : ℕ) (bytes : Bytes) → n < 18446744073709551616 → length bytes ≡ 20 → drop 20 bytes ≡ [] → Filling n bytes 20 n
filling_none n bytes h l e =
    record { few = decimal_20 n h; inside = omega arith; size = l; text = sym (ap (λ (x : Bytes). decimal n ++ x) e ∙ append-nil (decimal n)) }

module _ {n : ℕ} {bytes : Bytes} {i rest : ℕ} (w : Filling n bytes i rest) where
  left : length (decimal rest) ≤ i
  left = omega (arith, w.few, ap length w.text, length-append (decimal rest) (drop i bytes), length-drop i bytes)

  pub room_one : 1 ≤ i
  room_one = omega (arith, left, some_digit rest (ltb rest 10) refl)

  pub room_two : 10 ≤ rest → 2 ≤ i
  room_two h = omega (arith, left, two_digits rest h)

  digit_front : (b : ℕ) → drop (i - 1) (set bytes (i - 1) b) ≡ b ∷ drop i bytes
  digit_front b =
      let e : suc (i - 1) ≡ i = omega (arith, room_one) in
      front bytes (i - 1) b (omega (arith, room_one)) ∙ ap (λ (k : ℕ). b ∷ drop k bytes) e

  pub filling_more : {b : ℕ} → 10 ≤ rest → b ≡ digit_byte rest → Filling n (set bytes (i - 1) b) (i - 1) (rest / 10)
  filling_more {b} h e =
      record {
        few = w.few;
        inside = omega arith;
        size = length-set bytes (i - 1) b ∙ w.size;
        text =
            w.text
            ∙ (ap (λ (x : Bytes). x ++ drop i bytes) (decimal_more rest h)
            ∙ (append_assoc (decimal (rest / 10)) (digit_byte rest ∷ []) (drop i bytes)
            ∙ rw (digit_front b, e)));
      }

  pub filled : {b : ℕ} → rest < 10 → b ≡ digit_byte rest → Ends n (record { bytes = set bytes (i - 1) b; start = i - 1 })
  filled {b} h e =
      record {
        inside = omega arith;
        size = length-set bytes (i - 1) b ∙ w.size;
        text = sym (w.text ∙ (ap (λ (x : Bytes). x ++ drop i bytes) (decimal_digit rest h) ∙ rw (digit_front b, e)));
      }

-- Two digits.
module _ {n : ℕ} {bytes : Bytes} {i rest b a : ℕ} (w : Filling n bytes i rest) where
  pub filling_two : 100 ≤ rest → b ≡ digit_byte rest → a ≡ digit_byte (rest / 10) → Filling n (set (set bytes (i - 1) b) (i - 2) a) (i - 2) (rest / 100)
  filling_two h e f =
      let k : i - 1 - 1 ≡ i - 2 = omega arith in
      rw (k, div-div-eq-div-mul rest 10 10) at (filling_more (filling_more w (omega arith) e) (omega arith) f)

  pub filled_two : 10 ≤ rest → rest < 100 → b ≡ digit_byte rest → a ≡ digit_byte (rest / 10)
      → Ends n (record { bytes = set (set bytes (i - 1) b) (i - 2) a; start = i - 2 })
  filled_two h l e f =
      let k : i - 1 - 1 ≡ i - 2 = omega arith in
      rw k at (filled (filling_more w h e) (omega arith) f)

-- ---- the digits in the output
pub put_digits : {n : ℕ} {t : Digits} {at r : ℕ} {d d' : Bytes} → Ends n t → Put (take (20 - t.start) (drop t.start t.bytes)) at d r d' → Put (decimal n) at d r d'
put_digits {t = t} w p = put_as p (take_all (20 - t.start) (drop t.start t.bytes) (omega (arith, length-drop t.start t.bytes)) ∙ w.text)
