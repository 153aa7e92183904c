-- Judgement: what comes back of a value that a text reads as (6, 14) and of a rule on a record (evaluation, then 11, then 12), with the steps that are
-- reported. The order of all stages of an entry is in pipeline/Texts.antt.
use Rattle.std.specs.Prelude.{cond, ℕ, ltb, length}
use Rattle.std.specs.Prelude.{Option, None, Some}
use Rattle.model.specs.Bytes.{Bytes}
use Rattle.model.specs.Eval.{run, Outcome, value, refusal, outcome}
use Rattle.model.specs.Refusal.{number}
use Rattle.model.specs.declared.refusal.Refusal.{Refusal}
use Rattle.model.specs.declared.refusal.Refusal.TheVariants.{NotRule, NotSheet, Evaluating, AnswerTooLarge, OutputTooShort}
use Rattle.model.specs.Rule.{Rule}
use Rattle.model.specs.Run.{steps}
use Rattle.model.specs.Shape.{shape}
use Rattle.model.specs.Sheet.{Sheet, sheet_of}
use Rattle.model.specs.Size.{is_too_large}
use Rattle.model.specs.Value.{Value}
use Rattle.model.specs.Writing.{value_text}

-- A result, or the refusal that is given.
pub data Judged (A : Type 0) : Type 0 where
  done : A → Judged A
  refuses : Refusal → Judged A

-- 01, What comes back: 0 is "done", any other number a refusal.
abbrev pub judged_number : {A : Type 0} → Judged A → ℕ
judged_number (done a) = 0
judged_number (refuses e) = number e

abbrev pub or_refuse : {A : Type 0} → Refusal → Option A → Judged A
or_refuse e None = refuses e
or_refuse e (Some a) = done a

-- 6: "the text reads, but is not a rule"
abbrev pub rule_in : Value → Judged Rule
rule_in v = or_refuse NotRule (shape v)

-- 14: "the text reads, but is not a sheet"
abbrev pub sheet_in : Value → Judged Sheet
sheet_in v = or_refuse NotSheet (sheet_of v)

-- An answer's text, for an output area of some bytes: 11, then 12, "the answer's text is longer than the output area".
abbrev pub written_within : ℕ → Value → Judged Bytes
written_within room v =
    cond (is_too_large v) (refuses AnswerTooLarge)
    (cond (ltb room (length (value_text v))) (refuses OutputTooShort)
    (done (value_text v)))

-- What evaluation gave, written; its own refusals stay.
abbrev pub written : ℕ → Outcome → Judged Bytes
written room (value v) = written_within room v
written room (refusal e) = refuses (Evaluating e)

-- What comes back with a number of steps.
pub record Answer : Type 0 where
  pub result : Judged Bytes
  pub steps_begun : ℕ

-- A rule evaluated on a record under a limit, with an output area of some bytes. The steps begun are told with every refusal, 11 and 12 too.
abbrev pub answer_of : Rule → Value → ℕ → ℕ → Answer
answer_of r record' limit room =
    record { result = written room (outcome (run r record' limit)); steps_begun = steps (run r record' limit) }
