-- The whole answer.
use mathlib.Core.Path.{◌≡◌, refl, ◌∙◌}
use mathlib.Core.Bool.{Bool, true, false, ◌||◌, cond}
use mathlib.Core.Logic.{inl, inr}
use Prim.Native.Nat.{ℕ, ◌+◌, ◌≤◌}
use native.Mathlib.Omega.{arith}
use borrow.Author.Tests.{lt-ltb, le-ltb, ltb-true, ltb-false}
use lib.Dec.{ltb}
use lib.ListN.{length}
use lib.Seq.{sets}
use Rattle.area.specs.Laws.{zero_from_all, zero_from_sets}
use Rattle.area.specs.Words.{zero_from}
use Rattle.model.specs.Bytes.{Bytes}
use Rattle.model.specs.Limits.{max_text_bytes, max_values, max_nesting}
use Rattle.model.specs.Size.{value_count, nesting, is_too_large}
use Rattle.model.specs.Value.{Value}
use Rattle.model.specs.Writing.{value_text}
use Rattle.syntax.specs.Layout.{padded}
use Rattle.syntax.specs.Output.{value_written}
use Rattle.writer.specs.declared.WriteFault.{WriteFault}
use Rattle.writer.specs.declared.WriteFault.TheVariants.{TooLarge, OutputTooShort}
use Rattle.writer.specs.declared.value.Progress.{Progress}
use Rattle.std.specs.Prelude.{Option, Result, Ok, Err}
use Rattle.std.specs.Result.{result_unwrap_or}
use Rattle.writer.specs.Contract.{answer_length, answered}
use Rattle.writer.specs.Inner.{fitted, value_piece, Over, Writes, wrote, over}

abbrev Whole : Value → Bytes → (Option Progress) → Bytes → Type 0
Whole v d r d₁ = Writes (value_piece v) max_nesting max_values 0 d r d₁

module _ (v : Value) where
  too_large : Over (value_piece v) max_nesting max_values 0 → is_too_large v ≡ true
  too_large (inl x) = rw (lt-ltb max_nesting (nesting v) x)
  too_large (inr (inl x)) = go (ltb max_nesting (nesting v)) (lt-ltb max_values (value_count v) x)
    where
      go : (b : Bool) → ltb max_values (value_count v) ≡ true → b || (ltb max_values (value_count v) || ltb max_text_bytes (length (value_text v))) ≡ true
      go true e = refl
      go false e = rw e
  too_large (inr (inr x)) = go (ltb max_nesting (nesting v)) (ltb max_values (value_count v)) (lt-ltb max_text_bytes (length (value_text v)) (omega arith))
    where
      go : (b c : Bool) → ltb max_text_bytes (length (value_text v)) ≡ true → b || (c || ltb max_text_bytes (length (value_text v))) ≡ true
      go true c e = refl
      go false true e = refl
      go false false e = e

  small : nesting v ≤ max_nesting → value_count v ≤ max_values → 0 + length (value_text v) ≤ max_text_bytes → is_too_large v ≡ false
  small a b c = rw (le-ltb max_nesting (nesting v) a, le-ltb max_values (value_count v) b, le-ltb max_text_bytes (length (value_text v)) (omega arith))

  whole_over : (d d₁ : Bytes) {d₂ : Bytes} → Over (value_piece v) max_nesting max_values 0 → length d₁ ≡ length d → d₂ ≡ zero_from 0 d₁
      → answered (Err TooLarge) d₂ ≡ value_written v (length d)
  whole_over d d₁ x l z = rw (too_large x, z, zero_from_all d₁, l)

  -- 12, or done.
  whole_fits : (d d₁ : Bytes) {d₂ : Bytes} (n : ℕ) (short : Bool) → ltb (length d₁) n ≡ short → n ≡ length (value_text v) → nesting v ≤ max_nesting → value_count v ≤ max_values
      → 0 + length (value_text v) ≤ max_text_bytes → d₁ ≡ sets d 0 (value_text v) → length d₁ ≡ length d → d₂ ≡ zero_from (answer_length (cond short (Err OutputTooShort) (Ok n))) d₁
      → answered (cond short (Err OutputTooShort) (Ok n)) d₂ ≡ value_written v (length d)
  unfolding padded
  whole_fits d d₁ n true s e a b c f l z =
      rw (small a b c, lt-ltb (length d) (length (value_text v)) (omega (arith, ltb-true (length d₁) n s)), z, zero_from_all d₁, l)
  whole_fits d d₁ n false s e a b c f l z =
      rw (small a b c, le-ltb (length d) (length (value_text v)) (omega (arith, ltb-false (length d₁) n s)), z, f, e, zero_from_sets (value_text v) d (omega (arith, ltb-false (length d₁) n s)))

  -- The answer by how far the text goes.
  pub whole : (d d₁ : Bytes) {d₂ : Bytes} (r : Option Progress) (q : Result ℕ WriteFault) → Whole v d r d₁ → length d₁ ≡ length d → q ≡ fitted r (length d₁) → (size : ℕ) → size ≡ result_unwrap_or q 0 → d₂ ≡ zero_from size d₁
      → answered q d₂ ≡ value_written v (length d)
  whole d d₁ {d₂} r q w l e size k z = go w e (rw (k ∙ told q) at z)
    where
      told : (q : Result ℕ WriteFault) → result_unwrap_or q 0 ≡ answer_length q
      told (Ok n) = refl
      told (Err f) = refl

      go : Whole v d r d₁ → q ≡ fitted r (length d₁) → d₂ ≡ zero_from (answer_length q) d₁ → answered q d₂ ≡ value_written v (length d)
      go (over x g) e z = let k : q ≡ Err TooLarge = rw g at e in rw k (whole_over d d₁ x l (rw k at z))
      go (wrote a b c g f) e z =
          let n = 0 + length (value_text v) in
          let k : q ≡ cond (ltb (length d₁) n) (Err OutputTooShort) (Ok n) = rw g at e in
          rw k (whole_fits d d₁ n (ltb (length d₁) n) refl (omega arith) a b c f l (rw k at z))
