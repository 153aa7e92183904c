-- EvaluateChecked: what comes back from `jehvrukam_evaluate_checked`.
use Rattle.std.specs.Prelude.{Bool, true, false, ◌||◌, ℕ, length, replicate}
use Rattle.model.specs.Bytes.{Bytes}
use Rattle.model.specs.Judgement.{Judged, done, refuses, answer_of}
use Rattle.model.specs.Refusal.{number}
use Rattle.model.specs.Sheet.{fits}
use Rattle.model.specs.Types.{type_bits}
use Rattle.syntax.specs.Layout.{padded}
use Rattle.pipeline.specs.Areas.{TextAreas, is_short, zeroed, holding}
use Rattle.pipeline.specs.Stage.{Stage, passed, refused}
use Rattle.pipeline.specs.Texts.{CheckedTextsRead, evaluate_checked_stage}
use Rattle.jehvrukam.specs.Entry.{Entry, untouched, WorkAreas, work_areas, cannot_run, zeroed_work}
use Rattle.jehvrukam.specs.Fits.{yes_or_no}

pub record CheckedAreas : Type 0 where
  pub rule : TextAreas
  pub sheet : TextAreas
  pub «record» : TextAreas
  pub work : WorkAreas

-- Which text is refused, and its place; the types found; whether the record fits; the steps; the length of the answer's text.
pub record CheckedNumbers : Type 0 where
  pub which : ℕ
  pub place : ℕ
  pub words : ℕ
  pub fit : ℕ
  pub steps : ℕ
  pub size : ℕ

-- Refusal 1.
abbrev pub is_checked_invalid : ℕ → CheckedAreas → Bool
is_checked_invalid limit a = cannot_run limit a.work.cells || (is_short a.rule || (is_short a.sheet || is_short a.«record»))

abbrev pub checked_zeros : CheckedAreas → CheckedAreas
checked_zeros a = record { rule = zeroed a.rule; sheet = zeroed a.sheet; «record» = zeroed a.«record»; work = zeroed_work a.work }

-- ---- after reading and checking: evaluation, 11 and 12
-- Once evaluation has begun, the types found and whether the record fits are told, with a refusal too.
abbrev pub checked_numbers : CheckedTextsRead → ℕ → ℕ → CheckedNumbers
checked_numbers t steps size = record {
  which = 0;
  place = 0;
  words = type_bits t.checked.types;
  fit = yes_or_no (fits t.checked.sheet.content t.«record»);
  steps = steps;
  size = size;
}

abbrev pub checked_answered : CheckedAreas → CheckedTextsRead → Judged Bytes → ℕ → Entry CheckedNumbers CheckedAreas
checked_answered a t (done text) steps = record {
  refusal = 0;
  numbers = checked_numbers t steps (length text);
  areas = record {
    rule = holding t.checked.rule.value a.rule;
    sheet = holding t.checked.sheet.value a.sheet;
    «record» = holding t.«record» a.«record»;
    work = work_areas (replicate (length a.work.cells) 0) (padded (length a.work.output) text);
  };
}
checked_answered a t (refuses e) steps = record { refusal = number e; numbers = checked_numbers t steps 0; areas = checked_zeros a }

-- "a record that does not fit is evaluated all the same"
abbrev pub evaluate_checked_answer : CheckedAreas → ℕ → Stage CheckedTextsRead → Entry CheckedNumbers CheckedAreas
evaluate_checked_answer a limit (refused e which place) = record {
  refusal = number e;
  numbers = record { which = which; place = place; words = 0; fit = 0; steps = 0; size = 0 };
  areas = checked_zeros a;
}
evaluate_checked_answer a limit (passed t) =
    let x = answer_of t.checked.rule.content t.«record» limit (length a.work.output) in
    checked_answered a t x.result x.steps_begun

-- "Order ..: 1; rule read; 6; then sheet read, 14 and 13 where a sheet is given; record read; evaluation; 11; 12."
abbrev pub evaluate_checked_entry : Bytes → Bytes → Bytes → ℕ → CheckedAreas → CheckedNumbers → Entry CheckedNumbers CheckedAreas
evaluate_checked_entry rule sheet record' limit a n =
    elim (is_checked_invalid limit a) [ true ↦ untouched n a | false ↦ evaluate_checked_answer a limit (evaluate_checked_stage rule sheet record') ]
