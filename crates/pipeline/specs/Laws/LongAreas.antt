-- LongAreas: what the contracts come to with areas that are long enough, for a caller that has tested them.
use Rattle.std.specs.Prelude.{Bool, true, false, cond, ◌≡◌, refl, ℕ, Result, ⊤}
use Rattle.std.proofs.Common.{sym, ap, ◌∙◌}
use Rattle.model.specs.Bytes.{Bytes}
use Rattle.model.proofs.Laws.Logic.{clash}
use Rattle.model.specs.declared.refusal.Refusal.TheVariants.{InvalidArgument}
use Rattle.model.specs.Rule.{Rule}
use Rattle.model.specs.Sheet.{Sheet}
use Rattle.type_set.specs.declared.set.TypeSet.{TypeSet}
use Rattle.pipeline.specs.declared.text.Stop.{Stop}
use Rattle.pipeline.specs.Areas.{TextAreas, is_short, left_by, tidied, HoldsIndexed, HoldsMarked}
use Rattle.pipeline.specs.Contract.{stop_of, lent, left_in, tidied_in, Reads, ReadsRule, ReadsSheet, left_after, types_of, check_in, ChecksTexts, fit_of, fits_in, FitsTexts}
use Rattle.pipeline.specs.Stage.{Stage, passed, refused, ◌>>=◌, rule_text, sheet_text, read_as}
use Rattle.pipeline.specs.Texts.{TextRead, rule_stage, sheet_stage, TextsChecked, check_stage, fits_stage}

pub record Long (a : TextAreas) : Type 0 where
  pub long : is_short a ≡ false

pub lent_long : {A : Type 0} (which : ℕ) (x : Stage A) {a : TextAreas} → Long a → lent a which x ≡ x
lent_long which x l = rw l.long

pub left_long : (s : Bytes) {a : TextAreas} → Long a → left_in s a ≡ left_by s a
left_long s l = rw l.long

pub tidied_long : (a' : TextAreas) {a : TextAreas} → Long a → tidied_in a a' ≡ tidied a'
tidied_long a' l = rw l.long

-- Areas with which a stage is passed are long enough.
pub record LentPassed {A : Type 0} (a : TextAreas) (x : Stage A) (y : A) : Type 0 where
  pub long : Long a
  pub is : x ≡ passed y

pub lent_passed : {A : Type 0} (a : TextAreas) (which : ℕ) (x : Stage A) (y : A) → lent a which x ≡ passed y → LentPassed a x y
lent_passed a which x y e = go (is_short a) refl e
  where
    go : (b : Bool) → is_short a ≡ b → cond b (refused InvalidArgument which 0) x ≡ passed y → LentPassed a x y
    go true f g = clash cc
    go false f g = record { long = record { long = f }; is = g }

-- ---- one text
-- Held: what the areas hold once the stage is passed.
pub record ReadsLong {X : Type 0} (Held : X → TextAreas → Type 0) (x : Stage X) (s : Bytes) (a : TextAreas) (r : Result ⊤ Stop) (a' : TextAreas) : Type 0 where
  pub stop : r ≡ stop_of x
  pub areas : tidied a' ≡ left_by s a
  pub holds : (y : X) → x ≡ passed y → Held y a'

abbrev pub RuleHeld : TextRead Rule → TextAreas → Type 0
RuleHeld x a = HoldsMarked x.value a

abbrev pub SheetHeld : TextRead Sheet → TextAreas → Type 0
SheetHeld x a = HoldsIndexed x.value a

areas_long : (s : Bytes) (a' : TextAreas) {a : TextAreas} → Long a → tidied_in a a' ≡ left_in s a → tidied a' ≡ left_by s a
areas_long s a' l e = sym (tidied_long a' l) ∙ e ∙ left_long s l

module _ {s : Bytes} {a a' : TextAreas} {r : Result ⊤ Stop} (l : Long a) where
  pub text_long : {which : ℕ} → Reads which s a r a' → ReadsLong HoldsIndexed (read_as which s) s a r a'
  text_long {which} h = record {
    stop = h.stop ∙ ap stop_of (lent_long which (read_as which s) l);
    areas = areas_long s a' l h.areas;
    holds = λ v e. h.holds v (lent_long which (read_as which s) l ∙ e);
  }

  pub rule_long : ReadsRule s a r a' → ReadsLong RuleHeld (rule_stage s) s a r a'
  rule_long h = record {
    stop = h.stop ∙ ap stop_of (lent_long rule_text (rule_stage s) l);
    areas = areas_long s a' l h.areas;
    holds = λ x e. h.holds x (lent_long rule_text (rule_stage s) l ∙ e);
  }

  pub sheet_long : ReadsSheet s a r a' → ReadsLong SheetHeld (sheet_stage s) s a r a'
  sheet_long h = record {
    stop = h.stop ∙ ap stop_of (lent_long sheet_text (sheet_stage s) l);
    areas = areas_long s a' l h.areas;
    holds = λ x e. h.holds x (lent_long sheet_text (sheet_stage s) l ∙ e);
  }

-- ---- a rule's text and a sheet's
-- A stage that begins with another comes after it.
first_again : {A B : Type 0} (x : Stage A) (f : A → Stage B) → (x >>= λ y. x >>= f) ≡ (x >>= f)
first_again (passed a) f = refl
first_again (refused e which place) f = refl

pub record ChecksLong (rule sheet : Bytes) (a b : TextAreas) (r : Result TypeSet Stop) (a' b' : TextAreas) : Type 0 where
  pub types : r ≡ types_of (check_stage rule sheet)
  pub rule_areas : tidied a' ≡ left_by rule a
  pub sheet_areas : left_after (rule_stage rule) b' (tidied b') ≡ left_after (rule_stage rule) b (left_by sheet b)
  pub rule_holds : (t : TextsChecked) → check_stage rule sheet ≡ passed t → HoldsMarked t.rule.value a'
  pub sheet_holds : (t : TextsChecked) → check_stage rule sheet ≡ passed t → HoldsIndexed t.sheet.value b'

module _ (rule sheet : Bytes) {a b : TextAreas} (l : Long a) (m : Long b) where
  pub check_in_long : check_in a b rule sheet ≡ check_stage rule sheet
  check_in_long = rw (l.long, m.long) (first_again (rule_stage rule) _)

  pub check_long : {r : Result TypeSet Stop} {a' b' : TextAreas} → ChecksTexts rule sheet a b r a' b' → ChecksLong rule sheet a b r a' b'
  check_long {r} {a'} {b'} h = record {
    types = h.types ∙ ap types_of check_in_long;
    rule_areas = areas_long rule a' l h.rule_areas;
    sheet_areas = (λ i. left_after (sym (lent_long rule_text (rule_stage rule) l) i) b' (sym (tidied_long b' m) i)) ∙ h.sheet_areas ∙ (λ i. left_after (lent_long rule_text (rule_stage rule) l i) b (left_long sheet m i));
    rule_holds = λ t e. h.rule_holds t (check_in_long ∙ e);
    sheet_holds = λ t e. h.sheet_holds t (check_in_long ∙ e);
  }

-- ---- a sheet's text and a record's
pub record FitsLong (sheet record' : Bytes) (a b : TextAreas) (r : Result Bool Stop) (a' b' : TextAreas) : Type 0 where
  pub fit : r ≡ fit_of (fits_stage sheet record')
  pub sheet_areas : tidied a' ≡ left_by sheet a
  pub record_areas : left_after (sheet_stage sheet) b' (tidied b') ≡ left_after (sheet_stage sheet) b (left_by record' b)

module _ (sheet record' : Bytes) {a b : TextAreas} (l : Long a) (m : Long b) where
  pub fits_in_long : fits_in a b sheet record' ≡ fits_stage sheet record'
  fits_in_long = rw (l.long, m.long) (first_again (sheet_stage sheet) _)

  pub fit_long : {r : Result Bool Stop} {a' b' : TextAreas} → FitsTexts sheet record' a b r a' b' → FitsLong sheet record' a b r a' b'
  fit_long {r} {a'} {b'} h = record {
    fit = h.fit ∙ ap fit_of fits_in_long;
    sheet_areas = areas_long sheet a' l h.sheet_areas;
    record_areas = (λ i. left_after (sym (lent_long sheet_text (sheet_stage sheet) l) i) b' (sym (tidied_long b' m) i)) ∙ h.record_areas ∙ (λ i. left_after (lent_long sheet_text (sheet_stage sheet) l i) b (left_long record' m i));
  }
