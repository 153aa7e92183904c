-- CheckedJudging: the stages of evaluation under a sheet, one after the other.
use mathlib.Core.Bool.{Bool}
use mathlib.Core.Path.{◌≡◌, refl, sym, ap, ◌∙◌, subst}
use Prim.Native.Nat.{ℕ}
use lib.ListN.{length, replicate}
use Rattle.model.specs.Bytes.{Bytes}
use Rattle.model.specs.Judgement.{Judged, done, refuses, judged_number, rule_in, sheet_in, answer_of}
use Rattle.model.specs.Refusal.{number}
use Rattle.model.specs.Sheet.{fits}
use Rattle.model.specs.Types.{type_bits}
use Rattle.model.specs.Value.{Value}
use Rattle.syntax.specs.Output.{written_size, written_output}
use Rattle.eval.specs.declared.Evaluated as evaluating
use Rattle.eval.specs.Evaluate.{Ready, told_number, told_size, Evaluates}
use Rattle.name_index.specs.Table.{IndexedTable}
use Rattle.rule.specs.Mark.{Marked}
use Rattle.sheet.specs.Contract.{Fits}
use Rattle.table.specs.Laws.Standing.{was_read_denotes}
use Rattle.std.specs.Prelude.{Result, Ok, Err, ⊤}
use Rattle.pipeline.specs.declared.text.Stop.{Stop}
use Rattle.type_set.specs.declared.set.TypeSet.{TypeSet}
use Rattle.type_set.specs.Contract.{set_of, types_in}
use Rattle.type_set.specs.Laws.Set.{bits_set}
use Rattle.pipeline.specs.Areas.{TextAreas, text_areas, holding, left_by, tidied, HoldsIndexed, HoldsMarked}
use Rattle.pipeline.specs.Contract.{left_after, types_of}
use Rattle.pipeline.specs.Laws.Stages.{number_some, Passed, Stopped, ok_passed, err_stopped, CheckHeld, check_held, TextHeld, text_held, record_held, left_holding, held_sheet}
use Rattle.pipeline.specs.Laws.LongAreas.{ReadsLong, ChecksLong}
use Rattle.pipeline.specs.Stage.{Stage, passed, refused, rule_text, sheet_text, record_text, read_as}
use Rattle.pipeline.specs.Texts.{TextsChecked, check_stage, CheckedTextsRead, evaluate_checked_stage}
use Rattle.jehvrukam.specs.declared.evaluate_checked.Ran.{Ran}
use Rattle.jehvrukam.specs.Contract.{checked_areas_of, checked_numbers_of}
use Rattle.jehvrukam.specs.Entry.{Entry, WorkAreas, work_areas}
use Rattle.jehvrukam.specs.EvaluateChecked.{CheckedAreas, CheckedNumbers, checked_zeros, checked_answered, evaluate_checked_answer}
use Rattle.jehvrukam.specs.Fits.{yes_or_no}
use Rattle.jehvrukam.specs.Inner.{Judges, Runs, checked_tidied, checked_told, checked_outcome_of, AfterCheck, before_check}
use Rattle.jehvrukam.proofs.Settling.{AsLong, same_long, long_text, long_work}
use Rattle.jehvrukam.proofs.Stopping.{stops}
use Rattle.jehvrukam.proofs.Running.{Texts, ready, refusal_is, steps_are, size_is, output_is, cells_are}

abbrev parts : TextAreas → TextAreas → TextAreas → WorkAreas → CheckedAreas
parts t s r c = record { rule = t; sheet = s; «record» = r; work = c }

-- What the check left, from its contract.
abbrev pub after_check : {rule sheet T A S Z T' A' S' Z' : Bytes} {r c : Result TypeSet Stop} → r ≡ c → ChecksLong rule sheet (text_areas T A) (text_areas S Z) r (text_areas T' A') (text_areas S' Z') → AsLong T A T' A' → AsLong S Z S' Z' → AfterCheck c (text_areas T' A') (text_areas S' Z')
after_check {rule} {sheet} {T} {A} {S} {Z} {T'} {A'} {S'} {Z'} e h l m =
    record { rule = rule; sheet = sheet; rule_before = text_areas T A; sheet_before = text_areas S Z; checks = subst (λ y. ChecksLong rule sheet (text_areas T A) (text_areas S Z) y (text_areas T' A') (text_areas S' Z')) e h; rule_sizes = long_text l; sheet_sizes = long_text m }

all_read : (rule sheet d : Bytes) (t : TextsChecked) (v : Value) → check_stage rule sheet ≡ passed t → read_as record_text d ≡ passed v → evaluate_checked_stage rule sheet d ≡ passed (record { checked = t; «record» = v })
all_read rule sheet d t v e f = rw (e, f)

module _ (d : Bytes) (limit : ℕ) (T A S Z R B C O : Bytes) {c : Result TypeSet Stop} (k : AfterCheck c (text_areas T A) (text_areas S Z)) where
  abbrev rule : Bytes
  rule = k.rule

  abbrev sheet : Bytes
  sheet = k.sheet

  abbrev lent : CheckedAreas
  lent = before_check (checked_areas_of T A S Z R B C O) k

  abbrev Whole : Entry CheckedNumbers CheckedAreas
  Whole = evaluate_checked_answer lent limit (evaluate_checked_stage rule sheet d)

  as_long : {R' B' C' O' : Bytes} → AsLong R B R' B' → AsLong C O C' O' → checked_zeros (checked_areas_of T A S Z R' B' C' O') ≡ checked_zeros lent
  as_long l m = λ i. parts (k.rule_sizes i) (k.sheet_sizes i) (long_text l i) (long_work m i)

  stopping : {X : Type 0} (x : Stage X) (y : Stage CheckedTextsRead) {q : Stop} {a' : CheckedAreas} → ((p : Stopped x q) → y ≡ refused p.refusal p.which p.place) → Stopped x q → checked_zeros a' ≡ checked_zeros lent
      → Judges checked_tidied checked_zeros (evaluate_checked_answer lent limit y) lent (number q.refusal) (checked_numbers_of q.which q.place 0 0 0 0) a'
  stopping = stops checked_tidied checked_zeros (evaluate_checked_answer lent limit) lent (λ w p. checked_numbers_of w p 0 0 0 0) (λ e w p. refl) (λ e w p. refl)

  pub check_stops : {z : Stop} {o : Result Ran Stop} → c ≡ Err z → o ≡ Err z → Judges checked_tidied checked_zeros Whole lent (checked_outcome_of o).refusal (checked_told (checked_outcome_of o)) (checked_areas_of T A S Z R B C O)
  check_stops n e = rw e (stopping (check_stage rule sheet) (evaluate_checked_stage rule sheet d) (λ p. rw p.is) (err_stopped (λ t. set_of t.types) (check_stage rule sheet) (sym k.checks.types ∙ n)) (as_long (same_long R B) (same_long C O)))

  module _ {types : TypeSet} (check_ok : c ≡ Ok types) {R' B' : Bytes} {q : Result ⊤ Stop} (g : ReadsLong HoldsIndexed (read_as record_text d) d (text_areas R B) q (text_areas R' B')) (l : AsLong R B R' B') where
    pub check_passes : Passed (check_stage rule sheet)
    check_passes = ok_passed (λ t. set_of t.types) (check_stage rule sheet) (sym k.checks.types ∙ check_ok)

    pub record_stops : {z : Stop} {o : Result Ran Stop} → q ≡ Err z → o ≡ Err z → Judges checked_tidied checked_zeros Whole lent (checked_outcome_of o).refusal (checked_told (checked_outcome_of o)) (checked_areas_of T A S Z R' B' C O)
    record_stops n e = rw e (stopping (read_as record_text d) (evaluate_checked_stage rule sheet d) (λ p. rw (check_passes.is, p.is)) (err_stopped (λ a. tt) (read_as record_text d) (sym g.stop ∙ n)) (as_long l (same_long C O)))

    module _ (record_ok : q ≡ Ok tt) where
      pub record_passes : Passed (read_as record_text d)
      record_passes = ok_passed (λ a. tt) (read_as record_text d) (sym g.stop ∙ record_ok)

      abbrev checked : TextsChecked
      checked = check_passes.result

      abbrev value : Value
      value = record_passes.result

      held : CheckHeld rule sheet checked
      held = check_held rule sheet checked check_passes.is

      rule_text_held : TextHeld rule_in rule checked.rule
      rule_text_held = text_held rule_text rule_in rule checked.rule held.rule_passes

      sheet_text_held : TextHeld sheet_in sheet checked.sheet
      sheet_text_held = text_held sheet_text sheet_in sheet checked.sheet held.sheet_passes

      rule_held : HoldsMarked checked.rule.value (text_areas T A)
      rule_held = k.checks.rule_holds checked check_passes.is

      sheet_held : HoldsIndexed checked.sheet.value (text_areas S Z)
      sheet_held = k.checks.sheet_holds checked check_passes.is

      read_record_held : HoldsIndexed value (text_areas R' B')
      read_record_held = g.holds value record_passes.is

      pub rule_marked : Marked T A
      rule_marked = rule_held.marked

      pub record_indexed : ∥ IndexedTable R' B' ∥₁
      record_indexed = ∣ read_record_held.indexed ∣₁

      sheet_left : tidied (text_areas S Z) ≡ left_by sheet k.sheet_before
      sheet_left =
          sym (ap (λ y. left_after y (text_areas S Z) (tidied (text_areas S Z))) held.rule_passes)
          ∙ k.checks.sheet_areas
          ∙ ap (λ y. left_after y k.sheet_before (left_by sheet k.sheet_before)) held.rule_passes

      pub texts : Texts rule checked.rule value T A R' B'
      texts = record { rule = rule_text_held; rule_held = rule_held; record_held = read_record_held }

      pub run_ready : Runs limit C → Ready T A R' B' C limit
      run_ready u = ready texts u

      fit_is : {f : Bool} → Fits S Z R' B' f → f ≡ fits checked.sheet.content value
      fit_is w =
          w.is checked.sheet.content value
          (held_sheet sheet_text_held sheet_held.was_read)
          (was_read_denotes read_record_held.was_read)

      words_are : type_bits (types_in types) ≡ type_bits checked.types
      words_are =
          let e : Ok types ≡ Ok (set_of checked.types) = sym check_ok ∙ k.checks.types ∙ ap types_of check_passes.is in
          let f : types ≡ set_of checked.types = cc in
          ap (λ (t : TypeSet). type_bits (types_in t)) f ∙ bits_set checked.types

      -- By what evaluation comes to.
      abbrev all_texts : CheckedTextsRead
      all_texts = record { checked = checked; «record» = value }

      refusals : (j : Judged Bytes) (n : ℕ) → judged_number j ≡ (checked_answered lent all_texts j n).refusal
      refusals (done x) n = refl
      refusals (refuses e) n = refl

      numbers : (j : Judged Bytes) (n : ℕ) → checked_numbers_of 0 0 (type_bits checked.types) (yes_or_no (fits checked.sheet.content value)) n (written_size j) ≡ (checked_answered lent all_texts j n).numbers
      numbers (done x) n = refl
      numbers (refuses e) n = refl

      areas : (j : Judged Bytes) (n : ℕ) → judged_number j ≡ 0
          → parts (holding checked.rule.value k.rule_before) (holding checked.sheet.value k.sheet_before) (holding value (text_areas R B)) (work_areas (replicate (length C) 0) (written_output j (length O))) ≡ (checked_answered lent all_texts j n).areas
      areas (done x) n e = refl
      areas (refuses e) n f = absurd (number_some e f)

      module _ (u : Runs limit C) {f : Bool} (w : Fits S Z R' B' f) {C' O' : Bytes} {e : evaluating.Evaluated} (v : Evaluates T A R' B' C limit O e C' O') where
        pub judged : AsLong C O C' O' → Judges checked_tidied checked_zeros Whole lent (told_number e.size) (checked_numbers_of 0 0 (type_bits (types_in types)) (yes_or_no f) e.steps (told_size e.size)) (checked_areas_of T A S Z R' B' C' O')
        judged long = record {
          refusal = refusal_is texts u v ∙ refusals result begun ∙ sym (ap (λ (y : Stage CheckedTextsRead). (evaluate_checked_answer lent limit y).refusal) stage_is);
          numbers = (λ i. checked_numbers_of 0 0 (words_are i) (yes_or_no (fit_is w i)) (steps_are texts u v i) (size_is texts u v i)) ∙ numbers result begun ∙ sym (ap (λ (y : Stage CheckedTextsRead). (evaluate_checked_answer lent limit y).numbers) stage_is);
          areas = λ z. areas_left ∙ areas result begun (sym (refusal_is texts u v) ∙ z) ∙ sym (ap (λ (y : Stage CheckedTextsRead). (evaluate_checked_answer lent limit y).areas) stage_is);
          sizes = as_long l long;
        }
          where
            result : Judged Bytes
            result = (answer_of checked.rule.content value limit (length O)).result

            begun : ℕ
            begun = (answer_of checked.rule.content value limit (length O)).steps_begun

            stage_is : evaluate_checked_stage rule sheet d ≡ passed (record { checked = checked; «record» = value })
            stage_is = all_read rule sheet d checked value check_passes.is record_passes.is

            areas_left : checked_tidied (checked_areas_of T A S Z R' B' C' O') ≡ parts (holding checked.rule.value k.rule_before) (holding checked.sheet.value k.sheet_before) (holding value (text_areas R B)) (work_areas (replicate (length C) 0) (written_output (answer_of checked.rule.content value limit (length O)).result (length O)))
            areas_left = λ i. parts
                ((k.checks.rule_areas ∙ left_holding rule checked.rule.value k.rule_before rule_text_held.reads) i)
                ((sheet_left ∙ left_holding sheet checked.sheet.value k.sheet_before sheet_text_held.reads) i)
                ((g.areas ∙ left_holding d value (text_areas R B) (record_held d value record_passes.is)) i)
                (work_areas (cells_are texts u v i) (output_is texts u v i))
