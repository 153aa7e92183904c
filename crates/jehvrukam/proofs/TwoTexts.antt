-- TwoTexts: the whole answers of `jehvrukam_check` and `jehvrukam_fits`.
use mathlib.Core.Bool.{Bool, true, false}
use mathlib.Core.Path.{◌≡◌, refl, sym, ap, ◌∙◌}
use Prim.Native.Nat.{ℕ}
use lib.Dec.{eqb}
use Rattle.model.specs.Bytes.{Bytes}
use Rattle.model.specs.Judgement.{rule_in, sheet_in}
use Rattle.syntax.specs.Entry.{too_short}
use mathlib.Core.List.{[]}
use Rattle.std.specs.Prelude.{Result}
use Rattle.model.specs.Types.{type_bits}
use Rattle.pipeline.specs.declared.text.Stop.{Stop}
use Rattle.type_set.specs.declared.set.TypeSet.{TypeSet}
use Rattle.type_set.specs.Contract.{set_of, types_in}
use Rattle.type_set.specs.Laws.Set.{bits_set}
use Rattle.jehvrukam.specs.declared.told.Report.{Report}
use Rattle.pipeline.specs.Areas.{TextAreas, text_areas, zeroed, holding, left_by, tidied}
use Rattle.pipeline.specs.Contract.{left_after, types_of, ChecksTexts, fit_of, FitsTexts}
use Rattle.pipeline.specs.Laws.Stages.{number_some, text_held, record_held, left_holding, check_held, fits_held}
use Rattle.pipeline.specs.Laws.LongAreas.{ChecksLong, check_long, FitsLong, fit_long}
use Rattle.pipeline.specs.Stage.{Stage, passed, refused, rule_text, sheet_text}
use Rattle.pipeline.specs.Texts.{TextsChecked, check_stage, TextsFitted, fits_stage}
use Rattle.jehvrukam.specs.Check.{CheckAreas, CheckNumbers, is_check_invalid, check_zeros, check_answer, check_entry}
use Rattle.jehvrukam.specs.Contract.{entry, check_areas_of, check_numbers_of, fits_areas_of, fits_numbers_of}
use Rattle.jehvrukam.specs.Fits.{FitsAreas, FitsNumbers, yes_or_no, is_fits_invalid, fits_zeros, fits_answer, fits_entry}
use Rattle.jehvrukam.specs.Inner.{SettledText, check_tidied, fits_tidied, Judges, told_of}
use Rattle.jehvrukam.proofs.Settling.{AsLong, long_text, finish, first_true, second_true, both_false}

-- ---- `jehvrukam_check`
abbrev check_parts : TextAreas → TextAreas → CheckAreas
check_parts t s = record { rule = t; sheet = s }

module _ (rule sheet : Bytes) (T A S Z : Bytes) (n : CheckNumbers) where
  abbrev check_lent : CheckAreas
  check_lent = check_areas_of T A S Z

  check_invalid : is_check_invalid check_lent ≡ true → entry 1 n check_lent ≡ check_entry rule sheet check_lent n
  check_invalid e = rw (e, check_entry)

  pub check_rule_short : too_short T A ≡ true → entry 1 n check_lent ≡ check_entry rule sheet check_lent n
  check_rule_short e = check_invalid (first_true (too_short T A) _ e)

  module _ (rule_long : too_short T A ≡ false) where
    pub check_sheet_short : too_short S Z ≡ true → entry 1 n check_lent ≡ check_entry rule sheet check_lent n
    check_sheet_short e = check_invalid (second_true (too_short T A) _ rule_long e)

    module _ (sheet_long : too_short S Z ≡ false) {r : Result TypeSet Stop} {c : Report TypeSet} (told_is : c ≡ told_of (set_of []) r) {T₁ A₁ S₁ Z₁ : Bytes} (h : ChecksTexts rule sheet (text_areas T A) (text_areas S Z) r (text_areas T₁ A₁) (text_areas S₁ Z₁)) (l : AsLong T A T₁ A₁) (m : AsLong S Z S₁ Z₁) where
      check_told : ChecksLong rule sheet (text_areas T A) (text_areas S Z) r (text_areas T₁ A₁) (text_areas S₁ Z₁)
      check_told = check_long rule sheet (record { long = rule_long }) (record { long = sheet_long }) h

      judges : (x : Stage TextsChecked) → check_stage rule sheet ≡ x → Judges check_tidied check_zeros (check_answer check_lent x) check_lent c.refusal (check_numbers_of c.which c.place (type_bits (types_in c.value))) (check_areas_of T₁ A₁ S₁ Z₁)
      judges x e =
          let is : c ≡ told_of (set_of []) (types_of x) = told_is ∙ ap (told_of (set_of [])) (check_told.types ∙ ap types_of e) in
          record {
            refusal = ap (λ (y : Report TypeSet). y.refusal) is ∙ refusals x;
            numbers = ap (λ (y : Report TypeSet). check_numbers_of y.which y.place (type_bits (types_in y.value))) is ∙ numbers x;
            areas = λ f. areas x e (ap (λ (y : Report TypeSet). y.refusal) (sym is) ∙ f);
            sizes = λ i. check_parts (long_text l i) (long_text m i);
          }
        where
          refusals : (x : Stage TextsChecked) → (told_of (set_of []) (types_of x)).refusal ≡ (check_answer check_lent x).refusal
          refusals (passed t) = refl
          refusals (refused k w p) = refl

          numbers : (x : Stage TextsChecked) → check_numbers_of (told_of (set_of []) (types_of x)).which (told_of (set_of []) (types_of x)).place (type_bits (types_in (told_of (set_of []) (types_of x)).value)) ≡ (check_answer check_lent x).numbers
          numbers (passed t) = ap (check_numbers_of 0 0) (bits_set t.types)
          numbers (refused k w p) = ap (check_numbers_of w p) (bits_set [])

          areas : (x : Stage TextsChecked) → check_stage rule sheet ≡ x → (told_of (set_of []) (types_of x)).refusal ≡ 0 → check_tidied (check_areas_of T₁ A₁ S₁ Z₁) ≡ (check_answer check_lent x).areas
          areas (refused k w p) f z = absurd (number_some k z)
          areas (passed t) f z =
              let k = check_held rule sheet t f in
              let r = text_held rule_text rule_in rule t.rule k.rule_passes in
              let s = text_held sheet_text sheet_in sheet t.sheet k.sheet_passes in
              let rule_left : tidied (text_areas T₁ A₁) ≡ holding t.rule.value (text_areas T A) = check_told.rule_areas ∙ left_holding rule t.rule.value (text_areas T A) r.reads in
              let sheet_left : tidied (text_areas S₁ Z₁) ≡ holding t.sheet.value (text_areas S Z) = sym (ap (λ y. left_after y (text_areas S₁ Z₁) (tidied (text_areas S₁ Z₁))) k.rule_passes) ∙ check_told.sheet_areas ∙ ap (λ y. left_after y (text_areas S Z) (left_by sheet (text_areas S Z))) k.rule_passes ∙ left_holding sheet t.sheet.value (text_areas S Z) s.reads in
              λ i. check_parts (rule_left i) (sheet_left i)

      zeros : (x : Stage TextsChecked) → ((check_answer check_lent x).refusal ≡ 0 → ⊥) → (check_answer check_lent x).areas ≡ check_zeros check_lent
      zeros (passed t) f = absurd (f refl)
      zeros (refused k w p) f = refl

      pub checked : {T₂ A₂ S₂ Z₂ : Bytes} {words : ℕ} → SettledText (eqb c.refusal 0) T₁ A₁ T₂ A₂ → SettledText (eqb c.refusal 0) S₁ Z₁ S₂ Z₂ → words ≡ type_bits (types_in c.value)
          → entry c.refusal (check_numbers_of c.which c.place words) (check_areas_of T₂ A₂ S₂ Z₂) ≡ check_entry rule sheet check_lent n
      checked {T₂} {A₂} {S₂} {Z₂} t s e = ap (λ k. entry c.refusal (check_numbers_of c.which c.place k) (check_areas_of T₂ A₂ S₂ Z₂)) e ∙ finish check_tidied check_zeros (check_answer check_lent (check_stage rule sheet)) check_lent (zeros (check_stage rule sheet)) (judges (check_stage rule sheet) refl) ((λ i. check_parts (t.is i) (s.is i)) ∙ go (eqb c.refusal 0)) ∙ sym valid
        where
          go : (b : Bool) → check_parts (elim b [ true ↦ tidied (text_areas T₁ A₁) | false ↦ zeroed (text_areas T₁ A₁) ]) (elim b [ true ↦ tidied (text_areas S₁ Z₁) | false ↦ zeroed (text_areas S₁ Z₁) ]) ≡ elim b [ true ↦ check_tidied (check_areas_of T₁ A₁ S₁ Z₁) | false ↦ check_zeros (check_areas_of T₁ A₁ S₁ Z₁) ]
          go true = refl
          go false = refl

          valid : check_entry rule sheet check_lent n ≡ check_answer check_lent (check_stage rule sheet)
          valid = rw (both_false (too_short T A) _ rule_long sheet_long, check_entry)

-- ---- `jehvrukam_fits`
abbrev fits_parts : TextAreas → TextAreas → FitsAreas
fits_parts s r = record { sheet = s; «record» = r }

module _ (sheet record' : Bytes) (S Z R B : Bytes) (n : FitsNumbers) where
  abbrev fits_lent : FitsAreas
  fits_lent = fits_areas_of S Z R B

  fits_invalid : is_fits_invalid fits_lent ≡ true → entry 1 n fits_lent ≡ fits_entry sheet record' fits_lent n
  fits_invalid e = rw (e, fits_entry)

  pub fits_sheet_short : too_short S Z ≡ true → entry 1 n fits_lent ≡ fits_entry sheet record' fits_lent n
  fits_sheet_short e = fits_invalid (first_true (too_short S Z) _ e)

  module _ (sheet_long : too_short S Z ≡ false) where
    pub fits_record_short : too_short R B ≡ true → entry 1 n fits_lent ≡ fits_entry sheet record' fits_lent n
    fits_record_short e = fits_invalid (second_true (too_short S Z) _ sheet_long e)

    module _ (record-long : too_short R B ≡ false) {r : Result Bool Stop} {c : Report Bool} (told_is : c ≡ told_of false r) {S₁ Z₁ R₁ B₁ : Bytes} (h : FitsTexts sheet record' (text_areas S Z) (text_areas R B) r (text_areas S₁ Z₁) (text_areas R₁ B₁)) (l : AsLong S Z S₁ Z₁) (m : AsLong R B R₁ B₁) where
      fit_told : FitsLong sheet record' (text_areas S Z) (text_areas R B) r (text_areas S₁ Z₁) (text_areas R₁ B₁)
      fit_told = fit_long sheet record' (record { long = sheet_long }) (record { long = record-long }) h

      fits_judges : (x : Stage TextsFitted) → fits_stage sheet record' ≡ x → Judges fits_tidied fits_zeros (fits_answer fits_lent x) fits_lent c.refusal (fits_numbers_of c.which c.place (yes_or_no c.value)) (fits_areas_of S₁ Z₁ R₁ B₁)
      fits_judges x e =
          let is : c ≡ told_of false (fit_of x) = told_is ∙ ap (told_of false) (fit_told.fit ∙ ap fit_of e) in
          record {
            refusal = ap (λ (y : Report Bool). y.refusal) is ∙ refusals x;
            numbers = ap (λ (y : Report Bool). fits_numbers_of y.which y.place (yes_or_no y.value)) is ∙ numbers x;
            areas = λ f. areas x e (ap (λ (y : Report Bool). y.refusal) (sym is) ∙ f);
            sizes = λ i. fits_parts (long_text l i) (long_text m i);
          }
        where
          refusals : (x : Stage TextsFitted) → (told_of false (fit_of x)).refusal ≡ (fits_answer fits_lent x).refusal
          refusals (passed t) = refl
          refusals (refused k w p) = refl

          numbers : (x : Stage TextsFitted) → fits_numbers_of (told_of false (fit_of x)).which (told_of false (fit_of x)).place (yes_or_no (told_of false (fit_of x)).value) ≡ (fits_answer fits_lent x).numbers
          numbers (passed t) = refl
          numbers (refused k w p) = refl

          areas : (x : Stage TextsFitted) → fits_stage sheet record' ≡ x → (told_of false (fit_of x)).refusal ≡ 0 → fits_tidied (fits_areas_of S₁ Z₁ R₁ B₁) ≡ (fits_answer fits_lent x).areas
          areas (refused k w p) f z = absurd (number_some k z)
          areas (passed t) f z =
              let k = fits_held sheet record' t f in
              let s = text_held sheet_text sheet_in sheet t.sheet k.sheet_passes in
              let sheet_left : tidied (text_areas S₁ Z₁) ≡ holding t.sheet.value (text_areas S Z) = fit_told.sheet_areas ∙ left_holding sheet t.sheet.value (text_areas S Z) s.reads in
              let record_left : tidied (text_areas R₁ B₁) ≡ holding t.«record» (text_areas R B) = sym (ap (λ y. left_after y (text_areas R₁ B₁) (tidied (text_areas R₁ B₁))) k.sheet_passes) ∙ fit_told.record_areas ∙ ap (λ y. left_after y (text_areas R B) (left_by record' (text_areas R B))) k.sheet_passes ∙ left_holding record' t.«record» (text_areas R B) (record_held record' t.«record» k.record_passes) in
              λ i. fits_parts (sheet_left i) (record_left i)

      fits_zeros_lem : (x : Stage TextsFitted) → ((fits_answer fits_lent x).refusal ≡ 0 → ⊥) → (fits_answer fits_lent x).areas ≡ fits_zeros fits_lent
      fits_zeros_lem (passed t) f = absurd (f refl)
      fits_zeros_lem (refused k w p) f = refl

      pub fitted : {S₂ Z₂ R₂ B₂ : Bytes} {fit : ℕ} → SettledText (eqb c.refusal 0) S₁ Z₁ S₂ Z₂ → SettledText (eqb c.refusal 0) R₁ B₁ R₂ B₂ → fit ≡ yes_or_no c.value
          → entry c.refusal (fits_numbers_of c.which c.place fit) (fits_areas_of S₂ Z₂ R₂ B₂) ≡ fits_entry sheet record' fits_lent n
      fitted {S₂} {Z₂} {R₂} {B₂} s r e = ap (λ k. entry c.refusal (fits_numbers_of c.which c.place k) (fits_areas_of S₂ Z₂ R₂ B₂)) e ∙ finish fits_tidied fits_zeros (fits_answer fits_lent (fits_stage sheet record')) fits_lent (fits_zeros_lem (fits_stage sheet record')) (fits_judges (fits_stage sheet record') refl) ((λ i. fits_parts (s.is i) (r.is i)) ∙ go (eqb c.refusal 0)) ∙ sym valid
        where
          go : (b : Bool) → fits_parts (elim b [ true ↦ tidied (text_areas S₁ Z₁) | false ↦ zeroed (text_areas S₁ Z₁) ]) (elim b [ true ↦ tidied (text_areas R₁ B₁) | false ↦ zeroed (text_areas R₁ B₁) ]) ≡ elim b [ true ↦ fits_tidied (fits_areas_of S₁ Z₁ R₁ B₁) | false ↦ fits_zeros (fits_areas_of S₁ Z₁ R₁ B₁) ]
          go true = refl
          go false = refl

          valid : fits_entry sheet record' fits_lent n ≡ fits_answer fits_lent (fits_stage sheet record')
          valid = rw (both_false (too_short S Z) _ sheet_long record-long, fits_entry)
