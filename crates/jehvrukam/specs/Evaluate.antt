-- Evaluate: what comes back from `jehvrukam_evaluate`.
use Rattle.std.specs.Prelude.{Bool, true, false, ◌||◌, ℕ, length, replicate}
use Rattle.model.specs.Bytes.{Bytes}
use Rattle.model.specs.Judgement.{Judged, done, refuses, answer_of}
use Rattle.model.specs.Refusal.{number}
use Rattle.syntax.specs.Layout.{padded}
use Rattle.pipeline.specs.Areas.{TextAreas, is_short, zeroed, holding}
use Rattle.pipeline.specs.Stage.{Stage, passed, refused}
use Rattle.pipeline.specs.Texts.{TextsRead, evaluate_stage}
use Rattle.jehvrukam.specs.Entry.{Entry, untouched, WorkAreas, work_areas, cannot_run, zeroed_work}

-- ---- what is lent and told
pub record Areas : Type 0 where
  pub rule : TextAreas
  pub «record» : TextAreas
  pub work : WorkAreas

-- Which text is refused, and its place; the steps; the length of the answer's text.
pub record Numbers : Type 0 where
  pub which : ℕ
  pub place : ℕ
  pub steps : ℕ
  pub size : ℕ

abbrev pub Evaluated : Type 0
Evaluated = Entry Numbers Areas

-- Refusal 1.
abbrev pub is_invalid : ℕ → Areas → Bool
is_invalid limit a = cannot_run limit a.work.cells || (is_short a.rule || is_short a.«record»)

-- "Every other refusal leaves all work areas and the output area zero."
abbrev pub zeros : Areas → Areas
zeros a = record { rule = zeroed a.rule; «record» = zeroed a.«record»; work = zeroed_work a.work }

-- ---- after reading: evaluation, 11 and 12 (model/Judgement.antt: answer_of)
-- "After success the areas hold the read form described in docs/, the output holds the text, and every unused byte is zero."
abbrev pub answered : Areas → TextsRead → Judged Bytes → ℕ → Evaluated
answered a t (done text) steps = record {
  refusal = 0;
  numbers = record { which = 0; place = 0; steps = steps; size = length text };
  areas = record {
    rule = holding t.rule.value a.rule;
    «record» = holding t.«record» a.«record»;
    work = work_areas (replicate (length a.work.cells) 0) (padded (length a.work.output) text);
  };
}
answered a t (refuses e) steps = record { refusal = number e; numbers = record { which = 0; place = 0; steps = steps; size = 0 }; areas = zeros a }

-- "Before evaluation steps are 0."
abbrev pub evaluate_answer : Areas → ℕ → Stage TextsRead → Evaluated
evaluate_answer a limit (refused e which place) = record { refusal = number e; numbers = record { which = which; place = place; steps = 0; size = 0 }; areas = zeros a }
evaluate_answer a limit (passed t) =
    let x = answer_of t.rule.content t.«record» limit (length a.work.output) in
    answered a t x.result x.steps_begun

-- "Order ..: 1; rule read; 6; .. record read; evaluation; 11; 12." (pipeline/Texts.antt: evaluate_stage)
abbrev pub evaluate_entry : Bytes → Bytes → ℕ → Areas → Numbers → Evaluated
evaluate_entry rule record' limit a n = elim (is_invalid limit a) [ true ↦ untouched n a | false ↦ evaluate_answer a limit (evaluate_stage rule record') ]
