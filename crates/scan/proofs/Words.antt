-- White space and the bytes of a literal, byte by byte.
use mathlib.Core.Path.{◌≡◌, refl, sym, ap, ◌∙◌, subst, subst⁻¹}
use mathlib.Core.Bool.{Bool, true, false}
use mathlib.Core.List.{◌∷◌}
use Prim.Native.Nat.{ℕ, zero, suc, ◌+◌, ◌≤◌, ◌<◌, max}
use native.Mathlib.Omega.{arith}
use native.Mathlib.Nat.{add-zero, add-suc}
use native.Mathlib.Numerals.{add-one}
use borrow.Author.Tests.{ltb-true, ltb-false}
use lib.Dec.{eqb, ltb}
use lib.ListN.{length, get_or, drop, drop_of_length-le}
use lib.Seq.{drop-cons}
use Rattle.model.specs.Bytes.{Bytes, ascii}
use Rattle.model.specs.declared.refusal.ReadFault.TheVariants.{NotJson}
use Rattle.model.specs.Value.{Value}
use Rattle.syntax.specs.declared.Word.{Word}
use Rattle.syntax.specs.declared.Word.TheVariants.{TrueWord, FalseWord, NullWord}
use Rattle.syntax.specs.Read.{Parsed, ok, bad, fail, if, expect, literal}
use Rattle.syntax.specs.Tokens.{is_white}
use Rattle.scan.specs.Contract.{fault_of, end_white, Skipped, stands_at, Stands, word_value, LiteralMeets}
use Rattle.scan.specs.Inner.{ExpectMeets, Compared}
use Rattle.scan.specs.declared.Fault.{Fault}
use Rattle.std.specs.Prelude.{Result, Ok, Err}

-- ---- white space
pub record Skipping (s : Bytes) (at i : ℕ) : Type 0 where
  pub is : end_white (drop at s) at ≡ end_white (drop i s) i
  pub on : at ≤ i
  pub inside : at ≤ length s → i ≤ length s

pub skip_start : (s : Bytes) (at : ℕ) → Skipping s at at
skip_start s at = record { is = refl; on = omega arith; inside = λ h. h }

module _ {s : Bytes} {at i : ℕ} (k : Skipping s at i) where
  pub skip_more : i < length s → is_white (get_or s i 0) ≡ true → Skipping s at (i + 1)
  unfolding end_white
  skip_more l w =
      let e : end_white (drop i s) i ≡ end_white (drop (i + 1) s) (i + 1) = rw (add-one, drop-cons s i 0 l) (simp (end_white, w)) in
      record { is = k.is ∙ e; on = omega (arith, k.on); inside = λ h. omega arith }

  pub skip_stop : i < length s → is_white (get_or s i 0) ≡ false → Skipped s at i
  unfolding end_white
  skip_stop l w =
      let e : end_white (drop i s) i ≡ i = rw (drop-cons s i 0 l) (simp (end_white, w)) in
      record { is = sym (k.is ∙ e); on = k.on; inside = k.inside }

  skip_end : length s ≤ i → Skipped s at i
  unfolding end_white
  skip_end l =
      let e : end_white (drop i s) i ≡ i = rw (drop_of_length-le s l) in
      record { is = sym (k.is ∙ e); on = k.on; inside = k.inside }

-- The end of the text, or the offset itself if that is behind it.
pub skip_all : {s : Bytes} {at i : ℕ} → Skipping s at i → length s ≤ i → Skipped s at (max at (length s))
skip_all {s} {at} {i} k l = go (ltb (length s) at) refl
  where
    go : (c : Bool) → ltb (length s) at ≡ c → Skipped s at (max at (length s))
    go true e =
        let h : length s < at = ltb-true (length s) at e in
        let m : at ≡ max at (length s) = omega arith in
        subst (Skipped s at) m (skip_end (skip_start s at) (omega arith))
    go false e =
        let h : at ≤ length s = ltb-false (length s) at e in
        let m : i ≡ max at (length s) = omega (arith, k.inside h) in
        subst (Skipped s at) m (skip_end k l)

-- ---- literals
pub record Comparing (s : Bytes) (at : ℕ) (w : Bytes) (i : ℕ) : Type 0 where
  pub run : (a : Value) → expect w a (drop at s) at ≡ expect (drop i w) a (drop (at + i) s) (at + i)
  pub inside : 0 < i → at + i ≤ length s
  pub within : i ≤ length w

pub compare_start : (s : Bytes) (at : ℕ) (w : Bytes) → Comparing s at w 0
compare_start s at w = record { run = λ a. ap (λ k. expect w a (drop k s) k) (sym (add-zero at)); inside = λ h. absurd (omega arith); within = omega arith }

-- The offset is the first, or one inside the text.
pub compare_below : (m : ℕ) {s : Bytes} {at : ℕ} {w : Bytes} (i : ℕ) → at ≤ m → length s ≤ m → Comparing s at w i → at + i ≤ m
compare_below m zero h l k = omega arith
compare_below m (suc i) h l k = omega (arith, k.inside (omega arith))

expect_in : (x : ℕ) (xs : Bytes) (a : Value) (s : Bytes) (p : ℕ)
    → expect (x ∷ xs) a (drop p s) p ≡ if (stands_at s p x) (λ u q. expect xs a (drop (suc p) s) (suc p)) (fail NotJson) (drop p s) p
unfolding stands_at expect if fail
expect_in x xs a s p = go (ltb p (length s)) refl
  where
    go : (c : Bool) → ltb p (length s) ≡ c
        → expect (x ∷ xs) a (drop p s) p ≡ if (elim c [ true ↦ eqb (get_or s p 0) x | false ↦ false ]) (λ u q. expect xs a (drop (suc p) s) (suc p)) (fail NotJson) (drop p s) p
    go true e = rw (drop-cons s p 0 (ltb-true p (length s) e))
    go false e = rw (drop_of_length-le s (ltb-false p (length s) e))

module _ {s : Bytes} {at : ℕ} {w : Bytes} {i : ℕ} (k : Comparing s at w i) where
  next : (a : Value) (c : Bool) → i < length w → c ≡ stands_at s (at + i) (get_or w i 0)
      → expect w a (drop at s) at ≡ if c (λ u q. expect (drop (suc i) w) a (drop (suc (at + i)) s) (suc (at + i))) (fail NotJson) (drop (at + i) s) (at + i)
  next a c h e =
      k.run a ∙ ap (λ z. expect z a (drop (at + i) s) (at + i)) (drop-cons w i 0 h) ∙ expect_in (get_or w i 0) (drop (suc i) w) a s (at + i)
      ∙ ap (λ z. if z (λ u q. expect (drop (suc i) w) a (drop (suc (at + i)) s) (suc (at + i))) (fail NotJson) (drop (at + i) s) (at + i)) (sym e)

  pub compare_more : {r : Bool} → i < length w → Stands s (at + i) (get_or w i 0) r → r ≡ true → Comparing s at w (i + 1)
  unfolding if
  compare_more h t e =
      let l : at + i < length s = t.room e in
      record { run = λ a. rw (add-one, add-suc) (next a true h (sym e ∙ t.is)); inside = λ _. omega arith; within = omega arith }

  pub compare_stop : {r : Bool} → i < length w → Stands s (at + i) (get_or w i 0) r → r ≡ false → Compared s at w (Err (fault_of NotJson (at + i)))
  unfolding if fail
  compare_stop h t e =
      record {
        run = λ a. subst⁻¹ (λ (m : Parsed Value). ExpectMeets s at w a m (Err (fault_of NotJson (at + i)))) (next a false h (sym e ∙ t.is))
            refl;
      }

  pub compare_end : length w ≤ i → Compared s at w (Ok (at + i))
  unfolding expect
  compare_end h =
      record {
        run = λ a. subst⁻¹ (λ (m : Parsed Value). ExpectMeets s at w a m (Ok (at + i)))
            (k.run a ∙ ap (λ z. expect z a (drop (at + i) s) (at + i)) (drop_of_length-le w h))
            (record { answer = refl; is = refl; left = refl; end = omega (arith, k.within); inside = λ n. k.inside (omega (arith, k.within)) });
      }

abbrev word_bytes : Word → Bytes
word_bytes TrueWord = ascii "true"
word_bytes FalseWord = ascii "false"
word_bytes NullWord = ascii "null"

literal_expect : (w : Word) (t : Bytes) (p : ℕ) → literal w t p ≡ expect (word_bytes w) (word_value w) t p
unfolding literal
literal_expect TrueWord t p = refl
literal_expect FalseWord t p = refl
literal_expect NullWord t p = refl

some_bytes : (w : Word) → 0 < length (word_bytes w)
some_bytes TrueWord = omega arith
some_bytes FalseWord = omega arith
some_bytes NullWord = omega arith

literal_meets : (s : Bytes) (at : ℕ) (w : Word) (m : Parsed Value) (r : Result ℕ Fault) → ExpectMeets s at (word_bytes w) (word_value w) m r → LiteralMeets s at w m r
literal_meets s at w (ok v u q) r k =
    record { answer = k.answer; is = k.is; left = k.left; on = omega (arith, k.end, some_bytes w); inside = k.inside (some_bytes w) }
literal_meets s at w (bad f p) r k = k

pub literal_by_lem : {s : Bytes} {at : ℕ} {w x : Word} {r : Result ℕ Fault} → w ≡ x → Compared s at (word_bytes x) r → LiteralMeets s at w (literal w (drop at s) at) r
literal_by_lem {s} {at} {w} {x} {r} e k =
    subst⁻¹ (λ (y : Word). LiteralMeets s at y (literal y (drop at s) at) r) e
    (subst⁻¹ (λ (m : Parsed Value). LiteralMeets s at x m r) (literal_expect x (drop at s) at)
    (literal_meets s at x (expect (word_bytes x) (word_value x) (drop at s) at) r (k.run (word_value x))))
