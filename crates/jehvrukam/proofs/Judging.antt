-- Judging: the stages of evaluation, one after the other.
use mathlib.Core.Path.{◌≡◌, refl, sym, ap, ◌∙◌}
use Prim.Native.Nat.{ℕ}
use lib.ListN.{length, replicate}
use Rattle.model.specs.Bytes.{Bytes}
use Rattle.model.specs.Judgement.{Judged, done, refuses, judged_number, rule_in, answer_of}
use Rattle.model.specs.Refusal.{number}
use Rattle.model.specs.Rule.{Rule}
use Rattle.model.specs.Value.{Value}
use Rattle.syntax.specs.Output.{written_size, written_output}
use Rattle.eval.specs.declared.Evaluated as evaluating
use Rattle.eval.specs.Evaluate.{Ready, told_number, told_size, Evaluates}
use Rattle.std.specs.Prelude.{Result, Ok, Err, ⊤}
use Rattle.name_index.specs.Table.{IndexedTable}
use Rattle.rule.specs.Mark.{Marked}
use Rattle.pipeline.specs.declared.text.Stop.{Stop}
use Rattle.pipeline.specs.Areas.{text_areas, holding, HoldsIndexed}
use Rattle.pipeline.specs.Laws.Stages.{number_some, Passed, Stopped, ok_passed, err_stopped, TextHeld, text_held, record_held, left_holding}
use Rattle.pipeline.specs.Laws.LongAreas.{ReadsLong, RuleHeld}
use Rattle.pipeline.specs.Stage.{Stage, passed, refused, rule_text, record_text, read_as}
use Rattle.pipeline.specs.Texts.{TextRead, rule_stage, TextsRead, evaluate_stage}
use Rattle.jehvrukam.specs.Contract.{areas_of, numbers_of}
use Rattle.jehvrukam.specs.Entry.{work_areas}
use Rattle.jehvrukam.specs.Evaluate.{Areas, Evaluated, zeros, answered, evaluate_answer}
use Rattle.jehvrukam.specs.Inner.{Judges, Runs, areas_tidied, told, outcome_of}
use Rattle.jehvrukam.proofs.Settling.{AsLong, same_long, long_text, long_work}
use Rattle.jehvrukam.proofs.Stopping.{stops}
use Rattle.jehvrukam.proofs.Running.{Texts, ready, refusal_is, steps_are, size_is, output_is, cells_are}

-- ---- `jehvrukam_evaluate`
as_long : {T A R B C O T' A' R' B' C' O' : Bytes} → AsLong T A T' A' → AsLong R B R' B' → AsLong C O C' O' → zeros (areas_of T' A' R' B' C' O') ≡ zeros (areas_of T A R B C O)
as_long t r c = λ i. record { rule = long_text t i; «record» = long_text r i; work = long_work c i }

both_read : (s d : Bytes) (x : TextRead Rule) (v : Value) → rule_stage s ≡ passed x → read_as record_text d ≡ passed v → evaluate_stage s d ≡ passed (record { rule = x; «record» = v })
both_read s d x v e f = rw (e, f)

module _ (s d : Bytes) (limit : ℕ) (T A R B C O : Bytes) {T' A' : Bytes} {r : Result ⊤ Stop} (h : ReadsLong RuleHeld (rule_stage s) s (text_areas T A) r (text_areas T' A')) where
  abbrev lent : Areas
  lent = areas_of T A R B C O

  abbrev Whole : Evaluated
  Whole = evaluate_answer lent limit (evaluate_stage s d)

  stopping : {X : Type 0} (x : Stage X) (y : Stage TextsRead) {q : Stop} {a' : Areas} → ((p : Stopped x q) → y ≡ refused p.refusal p.which p.place) → Stopped x q → zeros a' ≡ zeros lent
      → Judges areas_tidied zeros (evaluate_answer lent limit y) lent (number q.refusal) (numbers_of q.which q.place 0 0) a'
  stopping = stops areas_tidied zeros (evaluate_answer lent limit) lent (λ w p. numbers_of w p 0 0) (λ e w p. refl) (λ e w p. refl)

  pub rule_stops : {z : Stop} {o : Result evaluating.Evaluated Stop} → r ≡ Err z → o ≡ Err z → AsLong T A T' A' → Judges areas_tidied zeros Whole lent (outcome_of o).refusal (told (outcome_of o)) (areas_of T' A' R B C O)
  rule_stops n e l = rw e (stopping (rule_stage s) (evaluate_stage s d) (λ p. rw p.is) (err_stopped (λ a. tt) (rule_stage s) (sym h.stop ∙ n)) (as_long l (same_long R B) (same_long C O)))

  module _ (rule_ok : r ≡ Ok tt) {R' B' : Bytes} {q : Result ⊤ Stop} (g : ReadsLong HoldsIndexed (read_as record_text d) d (text_areas R B) q (text_areas R' B')) (l : AsLong T A T' A') (m : AsLong R B R' B') where
    pub rule_passes : Passed (rule_stage s)
    rule_passes = ok_passed (λ a. tt) (rule_stage s) (sym h.stop ∙ rule_ok)

    pub record_stops : {z : Stop} {o : Result evaluating.Evaluated Stop} → q ≡ Err z → o ≡ Err z → Judges areas_tidied zeros Whole lent (outcome_of o).refusal (told (outcome_of o)) (areas_of T' A' R' B' C O)
    record_stops n e = rw e (stopping (read_as record_text d) (evaluate_stage s d) (λ p. rw (rule_passes.is, p.is)) (err_stopped (λ a. tt) (read_as record_text d) (sym g.stop ∙ n)) (as_long l m (same_long C O)))

    module _ (record_ok : q ≡ Ok tt) where
      pub record_passes : Passed (read_as record_text d)
      record_passes = ok_passed (λ a. tt) (read_as record_text d) (sym g.stop ∙ record_ok)

      rule_text_held : TextHeld rule_in s rule_passes.result
      rule_text_held = text_held rule_text rule_in s rule_passes.result rule_passes.is

      pub texts : Texts s rule_passes.result record_passes.result T' A' R' B'
      texts = record {
        rule = rule_text_held;
        rule_held = h.holds rule_passes.result rule_passes.is;
        record_held = g.holds record_passes.result record_passes.is;
      }

      pub rule_marked : Marked T' A'
      rule_marked = texts.rule_held.marked

      pub record_indexed : ∥ IndexedTable R' B' ∥₁
      record_indexed = ∣ texts.record_held.indexed ∣₁

      pub run_ready : Runs limit C → Ready T' A' R' B' C limit
      run_ready u = ready texts u

      -- By what evaluation comes to.
      refusals : (j : Judged Bytes) (n : ℕ) (t : TextsRead) → judged_number j ≡ (answered lent t j n).refusal
      refusals (done x) n t = refl
      refusals (refuses e) n t = refl

      numbers : (j : Judged Bytes) (n : ℕ) (t : TextsRead) → numbers_of 0 0 n (written_size j) ≡ (answered lent t j n).numbers
      numbers (done x) n t = refl
      numbers (refuses e) n t = refl

      areas : (j : Judged Bytes) (n : ℕ) (t : TextsRead) → judged_number j ≡ 0
          → record { rule = holding t.rule.value (text_areas T A); «record» = holding t.«record» (text_areas R B); work = work_areas (replicate (length C) 0) (written_output j (length O)) } ≡ (answered lent t j n).areas
      areas (done x) n t e = refl
      areas (refuses k) n t e = absurd (number_some k e)

      module _ (u : Runs limit C) {C' O' : Bytes} {e : evaluating.Evaluated} (v : Evaluates T' A' R' B' C limit O e C' O') where
        pub judged : AsLong C O C' O' → Judges areas_tidied zeros Whole lent (told_number e.size) (numbers_of 0 0 e.steps (told_size e.size)) (areas_of T' A' R' B' C' O')
        judged k = record {
          refusal = refusal_is texts u v ∙ refusals result begun read_texts ∙ sym (ap (λ (y : Stage TextsRead). (evaluate_answer lent limit y).refusal) stage_is);
          numbers = (λ i. numbers_of 0 0 (steps_are texts u v i) (size_is texts u v i)) ∙ numbers result begun read_texts ∙ sym (ap (λ (y : Stage TextsRead). (evaluate_answer lent limit y).numbers) stage_is);
          areas = λ f. areas_left ∙ areas result begun read_texts (sym (refusal_is texts u v) ∙ f) ∙ sym (ap (λ (y : Stage TextsRead). (evaluate_answer lent limit y).areas) stage_is);
          sizes = as_long l m k;
        }
          where
            result : Judged Bytes
            result = (answer_of rule_passes.result.content record_passes.result limit (length O)).result

            begun : ℕ
            begun = (answer_of rule_passes.result.content record_passes.result limit (length O)).steps_begun

            read_texts : TextsRead
            read_texts = record { rule = rule_passes.result; «record» = record_passes.result }

            stage_is : evaluate_stage s d ≡ passed (record { rule = rule_passes.result; «record» = record_passes.result })
            stage_is = both_read s d rule_passes.result record_passes.result rule_passes.is record_passes.is

            areas_left : areas_tidied (areas_of T' A' R' B' C' O') ≡ record { rule = holding rule_passes.result.value (text_areas T A); «record» = holding record_passes.result (text_areas R B); work = work_areas (replicate (length C) 0) (written_output (answer_of rule_passes.result.content record_passes.result limit (length O)).result (length O)) }
            areas_left = λ i. record {
              rule = (h.areas ∙ left_holding s rule_passes.result.value (text_areas T A) rule_text_held.reads) i;
              «record» = (g.areas ∙ left_holding d record_passes.result (text_areas R B) (record_held d record_passes.result record_passes.is)) i;
              work = work_areas (cells_are texts u v i) (output_is texts u v i);
            }
