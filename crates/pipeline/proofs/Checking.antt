-- Checking: a rule's text and a sheet's, one after the other; a sheet's and a record's.
use mathlib.Core.Bool.{Bool}
use Rattle.std.specs.Prelude.{Option, None, Some, Result, Ok, Err, ⊤}
use mathlib.Core.Path.{◌≡◌, refl, sym, ap, ◌∙◌}
use Rattle.type_check.specs.Contract.{found_of, Checks}
use Rattle.model.specs.Bytes.{Bytes}
use Rattle.model.specs.Judgement.{or_refuse, rule_in, sheet_in}
use Rattle.model.specs.declared.refusal.Refusal.TheVariants.{NotAccepted}
use Rattle.model.specs.Rule.{Rule}
use Rattle.model.specs.Sheet.{Sheet, fits}
use Rattle.model.specs.TypeCheck.{check}
use Rattle.model.specs.Types.{Types}
use Rattle.model.specs.Value.{Value}
use Rattle.sheet.specs.Contract.{Fits}
use Rattle.name_index.specs.Table.{IndexedTable}
use Rattle.rule.specs.Mark.{Marked}
use Rattle.table.specs.Laws.Standing.{was_read_denotes}
use Rattle.pipeline.specs.declared.text.Stop.{Stop}
use Rattle.pipeline.specs.Areas.{TextAreas, text_areas, HoldsIndexed, HoldsMarked}
use Rattle.pipeline.specs.Contract.{stop, result_of, stop_of, lent, left_in, tidied_in, Reads, ReadsRule, ReadsSheet, left_after, types_of, check_in, ChecksTexts, fit_of, fits_in, FitsTexts}
use Rattle.pipeline.specs.Laws.Stages.{Passed, Stopped, ok_passed, err_stopped, same_stop, text_held, check_held, held_rule, held_sheet}
use Rattle.pipeline.specs.Laws.LongAreas.{Long, lent_long, ReadsLong, RuleHeld, SheetHeld, text_long, rule_long, sheet_long, check_in_long, fits_in_long}
use Rattle.pipeline.specs.Stage.{Stage, passed, ◌>>=◌, rule_text, sheet_text, record_text, read_as, as_judged}
use Rattle.pipeline.specs.Texts.{TextRead, rule_stage, sheet_stage, TextsChecked, check_stage, fits_stage}
use Rattle.pipeline.proofs.Reading.{ok_long, onward, not_passed}
use Rattle.type_set.specs.declared.set.TypeSet.{TypeSet}
use Rattle.type_set.specs.Contract.{set_of}

-- Areas after a stage that is passed.
left_after_lem : {X : Type 0} {x : Stage X} {y : X} (b c : TextAreas) {b' c' : TextAreas} → x ≡ passed y → b' ≡ c' → left_after x b b' ≡ left_after x c c'
left_after_lem {X} {x} {y} b c {b'} {c'} e f = ap (λ (z : Stage X). left_after z b b') e ∙ f ∙ sym (ap (λ (z : Stage X). left_after z c c') e)

-- A refusal of a stage is that of all that begin with it.
first_stops : {A B C : Type 0} {x : Stage A} {s : Stop} (f : A → Stage B) (g : B → C) → Stopped x s → Err s ≡ result_of g (x >>= f)
first_stops f g y = ap Err y.tells ∙ sym (ap (λ z. result_of g (z >>= f)) y.is)

-- ---- a rule's text and a sheet's
abbrev checking : TextRead Rule → TextRead Sheet → Option Types → Stage TextsChecked
checking x y o = as_judged (or_refuse NotAccepted o) >>= λ ts. passed (record { rule = x; sheet = y; types = ts })

both_passed : (rule sheet : Bytes) (x : TextRead Rule) (y : TextRead Sheet) → rule_stage rule ≡ passed x → sheet_stage sheet ≡ passed y → check_stage rule sheet ≡ checking x y (check x.content y.content)
both_passed rule sheet x y e f = rw (e, f)

module _ (rule sheet : Bytes) {T A T' A' : Bytes} {r : Result ⊤ Stop} (h : ReadsRule rule (text_areas T A) r (text_areas T' A')) where
  pub rule_stops : {b : TextAreas} {z : Stop} {r' : Result TypeSet Stop} → r ≡ Err z → r' ≡ Err z → ChecksTexts rule sheet (text_areas T A) b r' (text_areas T' A') b
  rule_stops {b} {z} {r'} n n' =
      let x = err_stopped (λ a. tt) (lent (text_areas T A) rule_text (rule_stage rule)) (sym h.stop ∙ n) in
      let types_are : r' ≡ types_of (check_in (text_areas T A) b rule sheet) = n' ∙ first_stops (λ y. lent b sheet_text (check_stage rule sheet)) (λ t. set_of t.types) x in
      record {
        types = types_are;
        rule_areas = h.areas;
        sheet_areas = rw x.is;
        rule_holds = λ t e. absurd (not_passed _ types_are n' e);
        sheet_holds = λ t e. absurd (not_passed _ types_are n' e);
      }

  module _ (rule_ok : r ≡ Ok tt) {S Z S' Z' : Bytes} {q : Result ⊤ Stop} (g : ReadsSheet sheet (text_areas S Z) q (text_areas S' Z')) where
    rule_areas_long : Long (text_areas T A)
    rule_areas_long = ok_long (text_areas T A) rule_text (rule_stage rule) h.stop rule_ok

    rule_read : ReadsLong RuleHeld (rule_stage rule) rule (text_areas T A) r (text_areas T' A')
    rule_read = rule_long rule_areas_long h

    rule_passes : Passed (rule_stage rule)
    rule_passes = ok_passed (λ a. tt) (rule_stage rule) (sym rule_read.stop ∙ rule_ok)

    rule_passes_in : lent (text_areas T A) rule_text (rule_stage rule) ≡ passed rule_passes.result
    rule_passes_in = lent_long rule_text (rule_stage rule) rule_areas_long ∙ rule_passes.is

    -- What is left of the stages.
    rest_is : check_in (text_areas T A) (text_areas S Z) rule sheet ≡ lent (text_areas S Z) sheet_text (check_stage rule sheet)
    rest_is = ap (λ y. y >>= λ x. lent (text_areas S Z) sheet_text (check_stage rule sheet)) rule_passes_in

    sheet_left : left_after (lent (text_areas T A) rule_text (rule_stage rule)) (text_areas S' Z') (tidied_in (text_areas S Z) (text_areas S' Z')) ≡ left_after (lent (text_areas T A) rule_text (rule_stage rule)) (text_areas S Z) (left_in sheet (text_areas S Z))
    sheet_left = left_after_lem (text_areas S' Z') (text_areas S Z) rule_passes_in g.areas

    pub sheet_stops : {z : Stop} {r' : Result TypeSet Stop} → q ≡ Err z → r' ≡ Err z → ChecksTexts rule sheet (text_areas T A) (text_areas S Z) r' (text_areas T' A') (text_areas S' Z')
    sheet_stops {z} {r'} n n' = record {
      types = types_are;
      rule_areas = h.areas;
      sheet_areas = sheet_left;
      rule_holds = λ t e. absurd (not_passed _ types_are n' e);
      sheet_holds = λ t e. absurd (not_passed _ types_are n' e);
    }
      where
        after : q ≡ stop_of (sheet_stage sheet) → q ≡ stop_of (check_stage rule sheet)
        after e = let y = err_stopped (λ a. tt) (sheet_stage sheet) (sym e ∙ n) in e ∙ rw (rule_passes.is, y.is)

        types_are : r' ≡ types_of (check_in (text_areas T A) (text_areas S Z) rule sheet)
        types_are = n' ∙ same_stop _ _ (sym n ∙ onward (text_areas S Z) sheet_text (sheet_stage sheet) g.stop (check_stage rule sheet) after) ∙ sym (ap types_of rest_is)

    module _ (sheet_ok : q ≡ Ok tt) where
      sheet_areas_long : Long (text_areas S Z)
      sheet_areas_long = ok_long (text_areas S Z) sheet_text (sheet_stage sheet) g.stop sheet_ok

      sheet_read : ReadsLong SheetHeld (sheet_stage sheet) sheet (text_areas S Z) q (text_areas S' Z')
      sheet_read = sheet_long sheet_areas_long g

      sheet_passes : Passed (sheet_stage sheet)
      sheet_passes = ok_passed (λ a. tt) (sheet_stage sheet) (sym sheet_read.stop ∙ sheet_ok)

      abbrev x : TextRead Rule
      x = rule_passes.result

      abbrev y : TextRead Sheet
      y = sheet_passes.result

      rule_held : HoldsMarked x.value (text_areas T' A')
      rule_held = rule_read.holds x rule_passes.is

      sheet_held : HoldsIndexed y.value (text_areas S' Z')
      sheet_held = sheet_read.holds y sheet_passes.is

      pub rule_marked : Marked T' A'
      rule_marked = rule_held.marked

      pub sheet_indexed : ∥ IndexedTable S' Z' ∥₁
      sheet_indexed = ∣ sheet_held.indexed ∣₁

      -- What the kind check comes to.
      abbrev found_as : Option TypeSet → Result TypeSet Stop
      found_as None = Err (stop NotAccepted 0 0)
      found_as (Some t) = Ok t

      pub both_checked : {f : Option TypeSet} {c : Result TypeSet Stop} → Checks T' A' S' Z' f → c ≡ found_as f → ChecksTexts rule sheet (text_areas T A) (text_areas S Z) c (text_areas T' A') (text_areas S' Z')
      both_checked {f} {c} k l = record {
        types = l ∙ ap found_as found_is ∙ go (check x.content y.content) ∙ sym (ap types_of stage_is);
        rule_areas = h.areas;
        sheet_areas = sheet_left;
        rule_holds = λ t z. rule_read.holds t.rule (check_held rule sheet t (sym stages_long ∙ z)).rule_passes;
        sheet_holds = λ t z. sheet_read.holds t.sheet (check_held rule sheet t (sym stages_long ∙ z)).sheet_passes;
      }
        where
          found_is : f ≡ found_of (check x.content y.content)
          found_is =
              k.is x.content y.content
              (held_rule (text_held rule_text rule_in rule x rule_passes.is) rule_held.was_read)
              (held_sheet (text_held sheet_text sheet_in sheet y sheet_passes.is) sheet_held.was_read)

          stages_long : check_in (text_areas T A) (text_areas S Z) rule sheet ≡ check_stage rule sheet
          stages_long = check_in_long rule sheet rule_areas_long sheet_areas_long

          stage_is : check_in (text_areas T A) (text_areas S Z) rule sheet ≡ checking x y (check x.content y.content)
          stage_is = stages_long ∙ both_passed rule sheet x y rule_passes.is sheet_passes.is

          go : (o : Option Types) → found_as (found_of o) ≡ types_of (checking x y o)
          go None = refl
          go (Some ts) = refl

      pub not_accepted : {f : Option TypeSet} {z : Stop} → Checks T' A' S' Z' f → f ≡ None → z ≡ stop NotAccepted 0 0 → ChecksTexts rule sheet (text_areas T A) (text_areas S Z) (Err z) (text_areas T' A') (text_areas S' Z')
      not_accepted k e f = both_checked k (ap Err f ∙ ap found_as (sym e))

      pub accepted : {f : Option TypeSet} {t : TypeSet} → Checks T' A' S' Z' f → f ≡ Some t → ChecksTexts rule sheet (text_areas T A) (text_areas S Z) (Ok t) (text_areas T' A') (text_areas S' Z')
      accepted k e = both_checked k (ap found_as (sym e))

-- ---- a sheet's text and a record's
both_fitted : (sheet record' : Bytes) (x : TextRead Sheet) (v : Value) → sheet_stage sheet ≡ passed x → read_as record_text record' ≡ passed v → fits_stage sheet record' ≡ passed (record { sheet = x; «record» = v })
both_fitted sheet record' x v e f = rw (e, f)

module _ (sheet record' : Bytes) {S Z S' Z' : Bytes} {r : Result ⊤ Stop} (h : ReadsSheet sheet (text_areas S Z) r (text_areas S' Z')) where
  pub fit_sheet_stops : {b : TextAreas} {z : Stop} {r' : Result Bool Stop} → r ≡ Err z → r' ≡ Err z → FitsTexts sheet record' (text_areas S Z) b r' (text_areas S' Z') b
  fit_sheet_stops {b} n n' =
      let x = err_stopped (λ a. tt) (lent (text_areas S Z) sheet_text (sheet_stage sheet)) (sym h.stop ∙ n) in
      record { fit = n' ∙ first_stops (λ y. lent b record_text (fits_stage sheet record')) (λ t. fits t.sheet.content t.«record») x; sheet_areas = h.areas; record_areas = rw x.is }

  module _ (sheet_ok : r ≡ Ok tt) {R B R' B' : Bytes} {q : Result ⊤ Stop} (g : Reads record_text record' (text_areas R B) q (text_areas R' B')) where
    fit_sheet_long : Long (text_areas S Z)
    fit_sheet_long = ok_long (text_areas S Z) sheet_text (sheet_stage sheet) h.stop sheet_ok

    fit_sheet_read : ReadsLong SheetHeld (sheet_stage sheet) sheet (text_areas S Z) r (text_areas S' Z')
    fit_sheet_read = sheet_long fit_sheet_long h

    fit_sheet_passes : Passed (sheet_stage sheet)
    fit_sheet_passes = ok_passed (λ a. tt) (sheet_stage sheet) (sym fit_sheet_read.stop ∙ sheet_ok)

    fit_sheet_passes_in : lent (text_areas S Z) sheet_text (sheet_stage sheet) ≡ passed fit_sheet_passes.result
    fit_sheet_passes_in = lent_long sheet_text (sheet_stage sheet) fit_sheet_long ∙ fit_sheet_passes.is

    fit_rest_is : fits_in (text_areas S Z) (text_areas R B) sheet record' ≡ lent (text_areas R B) record_text (fits_stage sheet record')
    fit_rest_is = ap (λ y. y >>= λ x. lent (text_areas R B) record_text (fits_stage sheet record')) fit_sheet_passes_in

    record_left : left_after (lent (text_areas S Z) sheet_text (sheet_stage sheet)) (text_areas R' B') (tidied_in (text_areas R B) (text_areas R' B')) ≡ left_after (lent (text_areas S Z) sheet_text (sheet_stage sheet)) (text_areas R B) (left_in record' (text_areas R B))
    record_left = left_after_lem (text_areas R' B') (text_areas R B) fit_sheet_passes_in g.areas

    pub record_stops : {z : Stop} {r' : Result Bool Stop} → q ≡ Err z → r' ≡ Err z → FitsTexts sheet record' (text_areas S Z) (text_areas R B) r' (text_areas S' Z') (text_areas R' B')
    record_stops {r' = r'} n n' = record { fit = fit_is; sheet_areas = h.areas; record_areas = record_left }
      where
        after : q ≡ stop_of (read_as record_text record') → q ≡ stop_of (fits_stage sheet record')
        after e = let y = err_stopped (λ a. tt) (read_as record_text record') (sym e ∙ n) in e ∙ rw (fit_sheet_passes.is, y.is)

        fit_is : r' ≡ fit_of (fits_in (text_areas S Z) (text_areas R B) sheet record')
        fit_is = n' ∙ same_stop _ _ (sym n ∙ onward (text_areas R B) record_text (read_as record_text record') g.stop (fits_stage sheet record') after) ∙ sym (ap fit_of fit_rest_is)

    module _ (record_ok : q ≡ Ok tt) where
      record_areas_long : Long (text_areas R B)
      record_areas_long = ok_long (text_areas R B) record_text (read_as record_text record') g.stop record_ok

      record_read : ReadsLong HoldsIndexed (read_as record_text record') record' (text_areas R B) q (text_areas R' B')
      record_read = text_long record_areas_long g

      record_passes : Passed (read_as record_text record')
      record_passes = ok_passed (λ a. tt) (read_as record_text record') (sym record_read.stop ∙ record_ok)

      abbrev s : TextRead Sheet
      s = fit_sheet_passes.result

      abbrev v : Value
      v = record_passes.result

      record_held : HoldsIndexed v (text_areas R' B')
      record_held = record_read.holds v record_passes.is

      pub record_indexed : ∥ IndexedTable R' B' ∥₁
      record_indexed = ∣ record_held.indexed ∣₁

      pub both_fit : {f : Bool} → Fits S' Z' R' B' f → FitsTexts sheet record' (text_areas S Z) (text_areas R B) (Ok f) (text_areas S' Z') (text_areas R' B')
      both_fit {f} k = record { fit = ap Ok fit_is ∙ sym (ap fit_of stage_is); sheet_areas = h.areas; record_areas = record_left }
        where
          stage_is : fits_in (text_areas S Z) (text_areas R B) sheet record' ≡ passed (record { sheet = s; «record» = v })
          stage_is = fits_in_long sheet record' fit_sheet_long record_areas_long ∙ both_fitted sheet record' s v fit_sheet_passes.is record_passes.is

          fit_is : f ≡ fits s.content v
          fit_is =
              k.is s.content v
              (held_sheet (text_held sheet_text sheet_in sheet s fit_sheet_passes.is) (fit_sheet_read.holds s fit_sheet_passes.is).was_read)
              (was_read_denotes record_held.was_read)
