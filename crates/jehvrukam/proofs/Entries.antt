-- Entries: refusal 1, and the whole answer of each entry.
use mathlib.Core.Bool.{Bool, true, false}
use mathlib.Core.Path.{◌≡◌, refl, sym, ap, ◌∙◌, subst}
use Prim.Native.Nat.{ℕ}
use lib.Dec.{eqb}
use lib.ListN.{length}
use Rattle.model.specs.Bytes.{Bytes}
use Rattle.model.specs.Judgement.{Judged, done, refuses, answer_of}
use Rattle.syntax.specs.Entry.{too_short}
use Rattle.pipeline.specs.Areas.{TextAreas, text_areas, zeroed, tidied}
use Rattle.pipeline.specs.Laws.LongAreas.{Long}
use Rattle.pipeline.specs.Stage.{Stage, passed, refused}
use Rattle.pipeline.specs.Texts.{TextsRead, evaluate_stage, CheckedTextsRead, evaluate_checked_stage}
use Rattle.jehvrukam.specs.declared.evaluate.Outcome.{Outcome}
use Rattle.jehvrukam.specs.declared.evaluate_checked.CheckedOutcome.{CheckedOutcome}
use Rattle.jehvrukam.specs.Contract.{entry, areas_of, checked_areas_of, checked_numbers_of}
use Rattle.jehvrukam.specs.Entry.{WorkAreas, work_areas, cannot_run, zeroed_work}
use Rattle.jehvrukam.specs.Evaluate.{Areas, Numbers, is_invalid, zeros, answered, evaluate_answer, evaluate_entry}
use Rattle.jehvrukam.specs.EvaluateChecked.{CheckedAreas, CheckedNumbers, is_checked_invalid, checked_zeros, checked_answered, evaluate_checked_answer, evaluate_checked_entry}
use Rattle.jehvrukam.specs.Fits.{yes_or_no}
use Rattle.jehvrukam.specs.Inner.{settled_by, SettledText, SettledWork, areas_tidied, checked_tidied, Judges, Runs, told, checked_told}
use Rattle.jehvrukam.proofs.Settling.{finish, first_true, second_true, both_false}

-- ---- `jehvrukam_evaluate`
evaluate_zeros : (a : Areas) (limit : ℕ) (x : Stage TextsRead) → ((evaluate_answer a limit x).refusal ≡ 0 → ⊥) → (evaluate_answer a limit x).areas ≡ zeros a
evaluate_zeros a limit (refused e w p) n = refl
evaluate_zeros a limit (passed t) n = go (answer_of t.rule.content t.«record» limit (length a.work.output)).result _ n
  where
    go : (j : Judged Bytes) (k : ℕ) → ((answered a t j k).refusal ≡ 0 → ⊥) → (answered a t j k).areas ≡ zeros a
    go (done x) k m = absurd (m refl)
    go (refuses e) k m = refl

abbrev parts : TextAreas → TextAreas → WorkAreas → Areas
parts t r c = record { rule = t; «record» = r; work = c }

settled_areas : {k : Bool} {T A R B C O T' A' R' B' C' O' : Bytes} → SettledText k T A T' A' → SettledText k R B R' B' → SettledWork k C O C' O' → areas_of T' A' R' B' C' O' ≡ settled_by areas_tidied zeros k (areas_of T A R B C O)
settled_areas {k} {T} {A} {R} {B} {C} {O} t r c = (λ i. parts (t.is i) (r.is i) (c.is i)) ∙ go k
  where
    go : (b : Bool) → parts (elim b [ true ↦ tidied (text_areas T A) | false ↦ zeroed (text_areas T A) ]) (elim b [ true ↦ tidied (text_areas R B) | false ↦ zeroed (text_areas R B) ]) (elim b [ true ↦ work_areas C O | false ↦ zeroed_work (work_areas C O) ])
        ≡ elim b [ true ↦ areas_tidied (areas_of T A R B C O) | false ↦ zeros (areas_of T A R B C O) ]
    go true = refl
    go false = refl

module _ (s d : Bytes) (limit : ℕ) (T A R B C O : Bytes) (n : Numbers) where
  abbrev lent : Areas
  lent = areas_of T A R B C O

  invalid : is_invalid limit lent ≡ true → entry 1 n lent ≡ evaluate_entry s d limit lent n
  invalid e = rw (e, evaluate_entry)

  pub cannot : cannot_run limit C ≡ true → entry 1 n lent ≡ evaluate_entry s d limit lent n
  cannot e = invalid (first_true (cannot_run limit C) _ e)

  module _ (runs : cannot_run limit C ≡ false) where
    pub rule_short : too_short T A ≡ true → entry 1 n lent ≡ evaluate_entry s d limit lent n
    rule_short e = invalid (second_true (cannot_run limit C) _ runs (first_true (too_short T A) _ e))

    module _ (rule_long : too_short T A ≡ false) where
      pub record_short : too_short R B ≡ true → entry 1 n lent ≡ evaluate_entry s d limit lent n
      record_short e = invalid (second_true (cannot_run limit C) _ runs (second_true (too_short T A) _ rule_long e))

      module _ (record-long : too_short R B ≡ false) where
        pub sized : Long (text_areas T A) × Long (text_areas R B) × Runs limit C
        sized = (record { long = rule_long }, record { long = record-long }, record { runs = runs })

        pub evaluated : {o x : Outcome} {T₁ A₁ R₁ B₁ C₁ O₁ T₂ A₂ R₂ B₂ C₂ O₂ : Bytes}
            → o ≡ x
            → Judges areas_tidied zeros (evaluate_answer lent limit (evaluate_stage s d)) lent x.refusal (told x) (areas_of T₁ A₁ R₁ B₁ C₁ O₁)
            → SettledText (eqb o.refusal 0) T₁ A₁ T₂ A₂
            → SettledText (eqb o.refusal 0) R₁ B₁ R₂ B₂
            → SettledWork (eqb o.refusal 0) C₁ O₁ C₂ O₂
            → entry o.refusal (told o) (areas_of T₂ A₂ R₂ B₂ C₂ O₂) ≡ evaluate_entry s d limit lent n
        evaluated {T₁ = T₁} {A₁ = A₁} {R₁ = R₁} {B₁ = B₁} {C₁ = C₁} {O₁ = O₁} e j t r c =
            finish areas_tidied zeros (evaluate_answer lent limit (evaluate_stage s d)) lent (evaluate_zeros lent limit (evaluate_stage s d))
            (subst (λ (y : Outcome). Judges areas_tidied zeros (evaluate_answer lent limit (evaluate_stage s d)) lent y.refusal (told y) (areas_of T₁ A₁ R₁ B₁ C₁ O₁)) (sym e) j)
            (settled_areas t r c)
            ∙ sym valid
          where
            valid : evaluate_entry s d limit lent n ≡ evaluate_answer lent limit (evaluate_stage s d)
            valid = rw (both_false (cannot_run limit C) _ runs (both_false (too_short T A) _ rule_long record-long), evaluate_entry)

-- ---- `jehvrukam_evaluate_checked`
evaluate_checked_zeros : (a : CheckedAreas) (limit : ℕ) (x : Stage CheckedTextsRead) → ((evaluate_checked_answer a limit x).refusal ≡ 0 → ⊥) → (evaluate_checked_answer a limit x).areas ≡ checked_zeros a
evaluate_checked_zeros a limit (refused e w p) n = refl
evaluate_checked_zeros a limit (passed t) n = go (answer_of t.checked.rule.content t.«record» limit (length a.work.output)).result _ n
  where
    go : (j : Judged Bytes) (k : ℕ) → ((checked_answered a t j k).refusal ≡ 0 → ⊥) → (checked_answered a t j k).areas ≡ checked_zeros a
    go (done x) k m = absurd (m refl)
    go (refuses e) k m = refl

abbrev checked_parts : TextAreas → TextAreas → TextAreas → WorkAreas → CheckedAreas
checked_parts t s r c = record { rule = t; sheet = s; «record» = r; work = c }

checked_settled_areas : {k : Bool} {T A S Z R B C O T' A' S' Z' R' B' C' O' : Bytes} → SettledText k T A T' A' → SettledText k S Z S' Z' → SettledText k R B R' B' → SettledWork k C O C' O'
    → checked_areas_of T' A' S' Z' R' B' C' O' ≡ settled_by checked_tidied checked_zeros k (checked_areas_of T A S Z R B C O)
checked_settled_areas {k} {T} {A} {S} {Z} {R} {B} {C} {O} t s r c = (λ i. checked_parts (t.is i) (s.is i) (r.is i) (c.is i)) ∙ go k
  where
    go : (b : Bool) → checked_parts (elim b [ true ↦ tidied (text_areas T A) | false ↦ zeroed (text_areas T A) ]) (elim b [ true ↦ tidied (text_areas S Z) | false ↦ zeroed (text_areas S Z) ]) (elim b [ true ↦ tidied (text_areas R B) | false ↦ zeroed (text_areas R B) ]) (elim b [ true ↦ work_areas C O | false ↦ zeroed_work (work_areas C O) ])
        ≡ elim b [ true ↦ checked_tidied (checked_areas_of T A S Z R B C O) | false ↦ checked_zeros (checked_areas_of T A S Z R B C O) ]
    go true = refl
    go false = refl

module _ (rule sheet d : Bytes) (limit : ℕ) (T A S Z R B C O : Bytes) (n : CheckedNumbers) where
  abbrev checked_lent : CheckedAreas
  checked_lent = checked_areas_of T A S Z R B C O

  checked_invalid : is_checked_invalid limit checked_lent ≡ true → entry 1 n checked_lent ≡ evaluate_checked_entry rule sheet d limit checked_lent n
  checked_invalid e = rw (e, evaluate_checked_entry)

  pub checked_cannot : cannot_run limit C ≡ true → entry 1 n checked_lent ≡ evaluate_checked_entry rule sheet d limit checked_lent n
  checked_cannot e = checked_invalid (first_true (cannot_run limit C) _ e)

  module _ (runs : cannot_run limit C ≡ false) where
    pub checked_rule_short : too_short T A ≡ true → entry 1 n checked_lent ≡ evaluate_checked_entry rule sheet d limit checked_lent n
    checked_rule_short e = checked_invalid (second_true (cannot_run limit C) _ runs (first_true (too_short T A) _ e))

    module _ (rule_long : too_short T A ≡ false) where
      pub checked_sheet_short : too_short S Z ≡ true → entry 1 n checked_lent ≡ evaluate_checked_entry rule sheet d limit checked_lent n
      checked_sheet_short e = checked_invalid (second_true (cannot_run limit C) _ runs (second_true (too_short T A) _ rule_long (first_true (too_short S Z) _ e)))

      module _ (sheet_long : too_short S Z ≡ false) where
        pub checked_record_short : too_short R B ≡ true → entry 1 n checked_lent ≡ evaluate_checked_entry rule sheet d limit checked_lent n
        checked_record_short e = checked_invalid (second_true (cannot_run limit C) _ runs (second_true (too_short T A) _ rule_long (second_true (too_short S Z) _ sheet_long e)))

        module _ (record-long : too_short R B ≡ false) where
          pub evaluated_checked : (o : CheckedOutcome) {x : CheckedOutcome} {fit : ℕ} {T₁ A₁ S₁ Z₁ R₁ B₁ C₁ O₁ T₂ A₂ S₂ Z₂ R₂ B₂ C₂ O₂ : Bytes}
              → o ≡ x
              → Judges checked_tidied checked_zeros (evaluate_checked_answer checked_lent limit (evaluate_checked_stage rule sheet d)) checked_lent x.refusal (checked_told x) (checked_areas_of T₁ A₁ S₁ Z₁ R₁ B₁ C₁ O₁)
              → SettledText (eqb o.refusal 0) T₁ A₁ T₂ A₂
              → SettledText (eqb o.refusal 0) S₁ Z₁ S₂ Z₂
              → SettledText (eqb o.refusal 0) R₁ B₁ R₂ B₂
              → SettledWork (eqb o.refusal 0) C₁ O₁ C₂ O₂
              → fit ≡ yes_or_no o.fits
              → entry o.refusal (checked_numbers_of o.which o.place o.words fit o.steps o.size) (checked_areas_of T₂ A₂ S₂ Z₂ R₂ B₂ C₂ O₂) ≡ evaluate_checked_entry rule sheet d limit checked_lent n
          evaluated_checked o {T₁ = T₁} {A₁ = A₁} {S₁ = S₁} {Z₁ = Z₁} {R₁ = R₁} {B₁ = B₁} {C₁ = C₁} {O₁ = O₁} {T₂ = T₂} {A₂ = A₂} {S₂ = S₂} {Z₂ = Z₂} {R₂ = R₂} {B₂ = B₂} {C₂ = C₂} {O₂ = O₂} is j t s r c e =
              ap (λ f. entry o.refusal (checked_numbers_of o.which o.place o.words f o.steps o.size) (checked_areas_of T₂ A₂ S₂ Z₂ R₂ B₂ C₂ O₂)) e
              ∙ finish checked_tidied checked_zeros (evaluate_checked_answer checked_lent limit (evaluate_checked_stage rule sheet d)) checked_lent (evaluate_checked_zeros checked_lent limit (evaluate_checked_stage rule sheet d))
              (subst (λ (y : CheckedOutcome). Judges checked_tidied checked_zeros (evaluate_checked_answer checked_lent limit (evaluate_checked_stage rule sheet d)) checked_lent y.refusal (checked_told y) (checked_areas_of T₁ A₁ S₁ Z₁ R₁ B₁ C₁ O₁)) (sym is) j)
              (checked_settled_areas t s r c)
              ∙ sym valid
            where
              valid : evaluate_checked_entry rule sheet d limit checked_lent n ≡ evaluate_checked_answer checked_lent limit (evaluate_checked_stage rule sheet d)
              valid = rw (both_false (cannot_run limit C) _ runs (both_false (too_short T A) _ rule_long (both_false (too_short S Z) _ sheet_long record-long)), evaluate_checked_entry)
