-- Replaced: demand 3b at the entry: another rule in the place of an operand rule that the run never begins.
use Rattle.std.specs.Prelude.{Bool, true, false, ◌++◌, ◌≡◌, refl, ℕ, length}
use Rattle.std.specs.Prelude.{Some}
use Rattle.std.proofs.Common.{sym, subst, ◌∙◌}
use Rattle.model.specs.Bytes.{Bytes}
use Rattle.model.specs.Eval.{run, outcome}
use Rattle.model.specs.Judgement.{Judged, done, refuses, rule_in, written}
use Rattle.model.specs.declared.refusal.Refusal.TheVariants.{NotRule}
use Rattle.model.specs.Rule.{Rule}
use Rattle.model.specs.Run.{steps}
use Rattle.model.specs.Shape.{shape}
use Rattle.syntax.proofs.Demand3.{demand_3b_bytes}
use Rattle.pipeline.specs.Laws.Stages.{TextHeld, text_held, record_held, not_refused, EvaluateHeld, evaluate_held}
use Rattle.pipeline.specs.Stage.{passed, rule_text}
use Rattle.pipeline.specs.Texts.{TextRead, rule_stage, TextsRead, evaluate_stage}
use Rattle.jehvrukam.specs.Entry.{untouched}
use Rattle.jehvrukam.specs.Evaluate.{Areas, Numbers, Evaluated, is_invalid, answered, evaluate_answer, evaluate_entry}
use Rattle.promises.specs.Lengths.{SameEvaluate, SameEntry}
use Rattle.promises.specs.Replacement.{Replacement, RunsAlike, Alike}
use Rattle.promises.specs.Laws.Entries.{both_read}
use Rattle.promises.specs.Laws.Lengths.{evaluate_lengths}

module _ (text record' before old after new : Bytes) (limit : ℕ) (h : Replacement text record' limit before old after new) where
  held : EvaluateHeld text record' h.texts
  held = evaluate_held text record' h.texts h.read_so

  of_rule : (s : Bytes) (x : TextRead Rule) → rule_stage s ≡ passed x → TextHeld rule_in s x
  of_rule s x e = text_held rule_text rule_in s x e

  shape_of : (s : Bytes) (x : TextRead Rule) → rule_stage s ≡ passed x → shape x.value ≡ Some x.content
  shape_of s x e = not_refused NotRule (shape x.value) x.content (of_rule s x e).judged

  pub demand_3b : RunsAlike h.texts.rule.content h.whole.content h.texts limit
  demand_3b =
      let same =
      demand_3b_bytes text (before ++ (new ++ after)) record' before old after new h.texts.rule.value h.whole.value h.texts.«record» h.new_rule.value h.texts.rule.content h.whole.content h.new_rule.content h.operand h.place limit
      (of_rule text h.texts.rule held.rule_passes).reads
      (shape_of text h.texts.rule held.rule_passes)
      (record_held record' h.texts.«record» held.record_passes)
      h.is_operand
      h.never_begun
      h.stands
      (of_rule new h.new_rule h.new_is_rule).reads
      (shape_of new h.new_rule h.new_is_rule)
      refl
      (of_rule (before ++ (new ++ after)) h.whole h.whole_is_rule).reads
      (shape_of (before ++ (new ++ after)) h.whole h.whole_is_rule) in
      record { ends = same.0; begun = same.1 }

  -- In the same areas, with the same numbers.
  same_areas : (a : Areas) (n : Numbers) → Alike (evaluate_entry (before ++ (new ++ after)) record' limit a n) (evaluate_entry text record' limit a n)
  same_areas a n = by_size (is_invalid limit a) refl
    where
      other : TextsRead
      other = record { rule = h.whole; «record» = h.texts.«record» }

      begun : ℕ
      begun = steps (run h.texts.rule.content h.texts.«record» limit)

      same_record : (j : Judged Bytes) (k : ℕ) → Alike (answered a other j k) (answered a h.texts j k)
      same_record (done x) k = record { refusal = refl; numbers = λ _. refl; record_areas = λ _. refl; work_areas_lem = λ _. refl }
      same_record (refuses r) k = record { refusal = refl; numbers = λ _. refl; record_areas = λ _. refl; work_areas_lem = λ _. refl }

      answers : Alike (evaluate_answer a limit (passed other)) (evaluate_answer a limit (passed h.texts))
      answers =
          subst (λ (e : Evaluated). Alike e (evaluate_answer a limit (passed h.texts)))
          (sym (λ i. answered a other (written (length a.work.output) (demand_3b.ends i)) (demand_3b.begun i)))
          (same_record (written (length a.work.output) (outcome (run h.texts.rule.content h.texts.«record» limit))) begun)

      by_size : (b : Bool) → is_invalid limit a ≡ b → Alike (evaluate_entry (before ++ (new ++ after)) record' limit a n) (evaluate_entry text record' limit a n)
      by_size true e = rw (entry_is (before ++ (new ++ after)), entry_is text) (record { refusal = refl; numbers = λ _. refl; record_areas = λ _. refl; work_areas_lem = λ _. refl })
        where
          entry_is : (s : Bytes) → evaluate_entry s record' limit a n ≡ untouched n a
          entry_is s = rw (e, evaluate_entry)
      by_size false e = rw (entry_is (before ++ (new ++ after)), entry_is text, both_read (before ++ (new ++ after)) record' h.whole h.texts.«record» h.whole_is_rule held.record_passes, h.read_so) answers
        where
          entry_is : (s : Bytes) → evaluate_entry s record' limit a n ≡ evaluate_answer a limit (evaluate_stage s record')
          entry_is s = rw (e, evaluate_entry)

-- What the areas and numbers held plays no part.
same_alike : {x y z : Evaluated} → SameEntry x y → Alike y z → Alike x z
same_alike e h = record {
  refusal = e.refusal ∙ h.refusal;
  numbers = λ k. (λ i. (e.whole k i).numbers) ∙ h.numbers (λ z. k (e.refusal ∙ z));
  record_areas = λ k. (λ i. (e.whole k i).areas.«record») ∙ h.record_areas (λ z. k (e.refusal ∙ z));
  work_areas_lem = λ k. (λ i. (e.whole k i).areas.work) ∙ h.work_areas_lem (λ z. k (e.refusal ∙ z));
}

same_lengths : {a b : Areas} → SameEvaluate a b → SameEvaluate b a
same_lengths h = record {
  rule = record { table = sym h.rule.table; strings = sym h.rule.strings };
  «record» = record { table = sym h.«record».table; strings = sym h.«record».strings };
  work = record { cells = sym h.work.cells; output = sym h.work.output };
}

pub demand_3b_entry :
    (text record' before old after new : Bytes) (limit : ℕ) (a b : Areas) (m n : Numbers)
    → Replacement text record' limit before old after new
    → SameEvaluate a b
    → Alike (evaluate_entry (before ++ (new ++ after)) record' limit b n) (evaluate_entry text record' limit a m)
demand_3b_entry text record' before old after new limit a b m n h same =
    same_alike (evaluate_lengths (before ++ (new ++ after)) record' limit b a n m (same_lengths same)) (same_areas text record' before old after new limit h a m)
