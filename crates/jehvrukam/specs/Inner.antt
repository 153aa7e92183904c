-- Inner: what the private functions do.
use Rattle.std.specs.Prelude.{Bool, true, false, ◌≡◌, ℕ, Result, Ok, Err}
use Rattle.model.specs.Bytes.{Bytes}
use Rattle.eval.specs.declared.Evaluated.{Evaluated}
use Rattle.eval.specs.Evaluate.{told_number, told_size}
use Rattle.model.specs.Refusal.{number}
use Rattle.model.specs.Types.{type_bits}
use Rattle.pipeline.specs.declared.text.Stop.{Stop}
use Rattle.type_set.specs.declared.set.TypeSet.{TypeSet}
use Rattle.type_set.specs.Contract.{types_in}
use Rattle.pipeline.specs.Areas.{TextAreas, text_areas, zeroed, tidied}
use Rattle.pipeline.specs.Laws.LongAreas.{ChecksLong}
use Rattle.pipeline.specs.Texts.{evaluate_checked_stage}
use Rattle.jehvrukam.specs.declared.evaluate.Outcome.{Outcome}
use Rattle.jehvrukam.specs.declared.evaluate_checked.CheckedOutcome.{CheckedOutcome}
use Rattle.jehvrukam.specs.declared.evaluate_checked.Ran.{Ran}
use Rattle.jehvrukam.specs.declared.told.Report.{Report}
use Rattle.jehvrukam.specs.Check.{CheckAreas}
use Rattle.jehvrukam.specs.Contract.{numbers_of, checked_numbers_of}
use Rattle.jehvrukam.specs.Entry.{Entry, WorkAreas, work_areas, cannot_run, zeroed_work}
use Rattle.jehvrukam.specs.Evaluate.{Areas, Numbers}
use Rattle.jehvrukam.specs.EvaluateChecked.{CheckedAreas, CheckedNumbers, checked_zeros, evaluate_checked_answer}
use Rattle.jehvrukam.specs.Fits.{FitsAreas, yes_or_no}

-- ---- areas at the end of a call
-- Tidied after success, when the call is done, else cleared.
abbrev pub settled_by : {A : Type 0} → (tidy clear : A → A) → Bool → A → A
settled_by tidy clear done a = elim done [ true ↦ tidy a | false ↦ clear a ]

pub record SettledText (done : Bool) (T A T' A' : Bytes) : Type 0 where
  pub is : text_areas T' A' ≡ settled_by tidied zeroed done (text_areas T A)

-- Evaluation leaves nothing to tidy.
pub record SettledWork (done : Bool) (C O C' O' : Bytes) : Type 0 where
  pub is : work_areas C' O' ≡ settled_by (λ w. w) zeroed_work done (work_areas C O)

-- All areas of an entry, those of each text tidied.
abbrev pub check_tidied : CheckAreas → CheckAreas
check_tidied a = record { rule = tidied a.rule; sheet = tidied a.sheet }

abbrev pub fits_tidied : FitsAreas → FitsAreas
fits_tidied a = record { sheet = tidied a.sheet; «record» = tidied a.«record» }

abbrev pub areas_tidied : Areas → Areas
areas_tidied a = record { rule = tidied a.rule; «record» = tidied a.«record»; work = a.work }

abbrev pub checked_tidied : CheckedAreas → CheckedAreas
checked_tidied a = record { rule = tidied a.rule; sheet = tidied a.sheet; «record» = tidied a.«record»; work = a.work }

-- ---- the stages of an entry, before areas are settled
-- The refusal k and the numbers n are those of the whole answer; after success the areas a' are too, once tidied; after a refusal they are as long as they were.
pub record Judges {N A : Type 0} (tidy clear : A → A) (whole : Entry N A) (a : A) (k : ℕ) (n : N) (a' : A) : Type 0 where
  pub refusal : k ≡ whole.refusal
  pub numbers : n ≡ whole.numbers
  pub areas : k ≡ 0 → tidy a' ≡ whole.areas
  pub sizes : clear a' ≡ clear a

-- ---- what is told of two texts
-- With a refusal nothing else.
abbrev pub told_of : {A : Type 0} → A → Result A Stop → Report A
told_of nothing (Ok a) = record { refusal = 0; which = 0; place = 0; value = a }
told_of nothing (Err s) = record { refusal = number s.refusal; which = s.which; place = s.place; value = nothing }

-- ---- evaluation
pub record Runs (limit : ℕ) (C : Bytes) : Type 0 where
  pub runs : cannot_run limit C ≡ false

abbrev pub told : Outcome → Numbers
told o = numbers_of o.which o.place o.steps o.size

-- Of an evaluation, or of a text that is refused before it.
abbrev pub outcome_of : Result Evaluated Stop → Outcome
outcome_of (Ok e) = record { refusal = told_number e.size; which = 0; place = 0; steps = e.steps; size = told_size e.size }
outcome_of (Err s) = record { refusal = number s.refusal; which = s.which; place = s.place; steps = 0; size = 0 }

abbrev pub checked_told : CheckedOutcome → CheckedNumbers
checked_told o = checked_numbers_of o.which o.place o.words (yes_or_no o.fits) o.steps o.size

-- After evaluation: the types found and whether the record fits, with a refusal too.
abbrev pub checked_outcome_of : Result Ran Stop → CheckedOutcome
checked_outcome_of (Ok n) = record { refusal = told_number n.evaluated.size; which = 0; place = 0; words = type_bits (types_in n.types); fits = n.fits; steps = n.evaluated.steps; size = told_size n.evaluated.size }
checked_outcome_of (Err s) = record { refusal = number s.refusal; which = s.which; place = s.place; words = 0; fits = false; steps = 0; size = 0 }

-- ---- after the check
-- A check of two texts came to c and left these areas; before it they were others, of the same length.
pub record AfterCheck (c : Result TypeSet Stop) (ruleAreas sheetAreas : TextAreas) : Type 0 where
  pub rule : Bytes
  pub sheet : Bytes
  pub rule_before : TextAreas
  pub sheet_before : TextAreas
  pub checks : ChecksLong rule sheet rule_before sheet_before c ruleAreas sheetAreas
  pub rule_sizes : zeroed ruleAreas ≡ zeroed rule_before
  pub sheet_sizes : zeroed sheetAreas ≡ zeroed sheet_before

abbrev pub before_check : {c : Result TypeSet Stop} (a : CheckedAreas) → AfterCheck c a.rule a.sheet → CheckedAreas
before_check a k = record { rule = k.rule_before; sheet = k.sheet_before; «record» = a.«record»; work = a.work }

-- The stages that are left, with the record's text d: the whole answer is that for the areas before the check. The rule's areas and the sheet's stay.
pub record JudgesAfter (c : Result TypeSet Stop) (d : Bytes) (limit : ℕ) (a : CheckedAreas) (r : Result Ran Stop) (recordAreas : TextAreas) (work : WorkAreas) : Type 0 where
  pub is :
      (k : AfterCheck c a.rule a.sheet)
      → Judges checked_tidied checked_zeros (evaluate_checked_answer (before_check a k) limit (evaluate_checked_stage k.rule k.sheet d)) (before_check a k) (checked_outcome_of r).refusal (checked_told (checked_outcome_of r)) (record { rule = a.rule; sheet = a.sheet; «record» = recordAreas; work = work })
