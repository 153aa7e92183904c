-- Settling: areas tidied after success and cleared after a refusal, and the whole answer.
use mathlib.Core.Bool.{Bool, true, false, ◌||◌}
use mathlib.Core.Path.{◌≡◌, refl, sym, ◌∙◌}
use Prim.Native.Nat.{ℕ, ◌*◌}
use borrow.Author.Tests.{eqb-true, eqb-false}
use lib.Dec.{eqb}
use lib.ListN.{length}
use Rattle.area.specs.Laws.{zero_from_all}
use Rattle.area.specs.Words.{zero_from}
use Rattle.model.specs.Bytes.{Bytes}
use Rattle.model.proofs.Laws.Logic.{clash}
use Rattle.model.specs.Limits.{max_values}
use Rattle.syntax.specs.Layout.{row_bytes}
use Rattle.pipeline.specs.Areas.{text_areas, zeroed}
use Rattle.jehvrukam.specs.Contract.{entry}
use Rattle.jehvrukam.specs.Entry.{Entry, work_areas, zeroed_work}
use mir.Val.{bool_byte}
use Rattle.jehvrukam.specs.Fits.{yes_or_no}
use Rattle.jehvrukam.specs.Inner.{settled_by, SettledText, SettledWork, Judges}

-- ---- the two areas of a text, and those of evaluation
pub text_tidied : {b : Bool} {T A T' : Bytes} → b ≡ true → T' ≡ zero_from (max_values * row_bytes) T → SettledText b T A T' A
text_tidied {b} {T} {A} z e = record { is = (λ i. text_areas (e i) A) ∙ rw (z, settled_by) }

pub text_cleared : {b : Bool} {T A T' A' : Bytes} → b ≡ false → T' ≡ zero_from 0 T → A' ≡ zero_from 0 A → SettledText b T A T' A'
text_cleared {b} {T} {A} n e f = record { is = (λ i. text_areas ((e ∙ zero_from_all T) i) ((f ∙ zero_from_all A) i)) ∙ rw (n, settled_by) }

pub work_kept : {b : Bool} {C O : Bytes} → b ≡ true → SettledWork b C O C O
work_kept z = record { is = rw (z, settled_by) }

pub work_cleared : {b : Bool} {C O C' O' : Bytes} → b ≡ false → C' ≡ zero_from 0 C → O' ≡ zero_from 0 O → SettledWork b C O C' O'
work_cleared {b} {C} {O} n e f = record { is = (λ i. work_areas ((e ∙ zero_from_all C) i) ((f ∙ zero_from_all O) i)) ∙ rw (n, settled_by) }

-- Areas as long as others are the same once cleared.
pub record AsLong (S Z S' Z' : Bytes) : Type 0 where
  pub first : length S' ≡ length S
  pub second : length Z' ≡ length Z

pub same_long : (S Z : Bytes) → AsLong S Z S Z
same_long S Z = record { first = refl; second = refl }

pub long_text : {T A T' A' : Bytes} → AsLong T A T' A' → zeroed (text_areas T' A') ≡ zeroed (text_areas T A)
long_text l = rw (l.first, l.second)

pub long_work : {C O C' O' : Bytes} → AsLong C O C' O' → zeroed_work (work_areas C' O') ≡ zeroed_work (work_areas C O)
long_work l = rw (l.first, l.second)

-- ---- the whole answer
module _ {N A : Type 0} (tidy clear : A → A) (whole : Entry N A) (a : A) (zero-areas : (whole.refusal ≡ 0 → ⊥) → whole.areas ≡ clear a) where
  pub finish : {k : ℕ} {n : N} {a₁ a₂ : A} → Judges tidy clear whole a k n a₁ → a₂ ≡ settled_by tidy clear (eqb k 0) a₁ → entry k n a₂ ≡ whole
  finish {k} {n} {a₁} {a₂} j e = λ i. entry (j.refusal i) (j.numbers i) (areas_are i)
    where
      go : (b : Bool) → eqb k 0 ≡ b → elim b [ true ↦ tidy a₁ | false ↦ clear a₁ ] ≡ whole.areas
      go true f = j.areas (eqb-true k 0 f)
      go false f = j.sizes ∙ sym (zero-areas (λ g. eqb-false k 0 f (j.refusal ∙ g)))

      areas_are : a₂ ≡ whole.areas
      areas_are = e ∙ go (eqb k 0) refl

-- ---- a yes or no is told as 1 or 0
pub told_as : (b : Bool) → bool_byte b ≡ yes_or_no b
told_as true = refl
told_as false = refl

-- ---- refusal 1
pub first_true : (a b : Bool) → a ≡ true → a || b ≡ true
first_true a b e = rw e

pub second_true : (a b : Bool) → a ≡ false → b ≡ true → a || b ≡ true
second_true a b e f = rw (e, f)

pub both_false : (a b : Bool) → a ≡ false → b ≡ false → a || b ≡ false
both_false a b e f = rw (e, f)

pub neither : (a b : Bool) → a || b ≡ false → (a ≡ false) × (b ≡ false)
neither true b e = clash cc
neither false b e = (refl, e)
