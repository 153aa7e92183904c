-- Replacement: 01, Evaluation: "To put another in its place, the bytes of that one value give way to any text that reads and is a rule".
use Rattle.std.specs.Prelude.{◌++◌, ◌≡◌, ℕ}
use Rattle.std.specs.Prelude.{Some}
use Rattle.model.specs.Bytes.{Bytes}
use Rattle.model.specs.Eval.{run, outcome}
use Rattle.model.specs.Place.{subrule}
use Rattle.model.specs.Rule.{Rule}
use Rattle.model.specs.Run.{Place, steps, NeverBegins}
use Rattle.syntax.specs.Locate.{StandsAt, positions_of}
use Rattle.pipeline.specs.Stage.{passed}
use Rattle.pipeline.specs.Texts.{TextRead, rule_stage, TextsRead, evaluate_stage}
use Rattle.jehvrukam.specs.Evaluate.{Evaluated}

-- In a rule's bytes, `before`, `old` and `after`, `old` is an operand rule, by its place, that the run on the record's bytes never begins. The bytes `new` are
-- a rule, and so is the whole with `new` in that place.
pub record Replacement (text record' : Bytes) (limit : ℕ) (before old after new : Bytes) : Type 0 where
  pub texts : TextsRead
  pub read_so : evaluate_stage text record' ≡ passed texts
  pub place : Place
  pub operand : Rule
  pub is_operand : subrule place texts.rule.content ≡ Some operand
  pub stands : StandsAt text (positions_of place texts.rule.value) before old after
  pub never_begun : NeverBegins place (run texts.rule.content texts.«record» limit)
  pub new_rule : TextRead Rule
  pub new_is_rule : rule_stage new ≡ passed new_rule
  pub whole : TextRead Rule
  pub whole_is_rule : rule_stage (before ++ (new ++ after)) ≡ passed whole

-- Both runs end alike, in value or refusal and in steps.
pub record RunsAlike (r r' : Rule) (texts : TextsRead) (limit : ℕ) : Type 0 where
  pub ends : outcome (run r' texts.«record» limit) ≡ outcome (run r texts.«record» limit)
  pub begun : steps (run r' texts.«record» limit) ≡ steps (run r texts.«record» limit)

-- Two answers are alike: the refusal is the same, and unless it is 1, so are all numbers, and the last bytes of every area but the rule's, which after success hold the other rule.
pub record Alike (x y : Evaluated) : Type 0 where
  pub refusal : x.refusal ≡ y.refusal
  pub numbers : ¬ (x.refusal ≡ 1) → x.numbers ≡ y.numbers
  pub record_areas : ¬ (x.refusal ≡ 1) → x.areas.«record» ≡ y.areas.«record»
  pub work_areas_lem : ¬ (x.refusal ≡ 1) → x.areas.work ≡ y.areas.work
