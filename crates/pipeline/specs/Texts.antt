-- Texts: the stages before evaluation, in 01's order: "rule read; 6; then sheet read, 14 and 13 where a sheet is given; record read".
use Rattle.std.specs.Prelude.{ℕ}
use Rattle.model.specs.Bytes.{Bytes}
use Rattle.model.specs.Judgement.{Judged, rule_in, sheet_in, or_refuse}
use Rattle.model.specs.declared.refusal.Refusal.TheVariants.{NotAccepted}
use Rattle.model.specs.Rule.{Rule}
use Rattle.model.specs.Sheet.{Sheet}
use Rattle.model.specs.TypeCheck.{check}
use Rattle.model.specs.Types.{Types}
use Rattle.model.specs.Value.{Value}
use Rattle.pipeline.specs.Stage.{Stage, passed, ◌>>=◌, rule_text, sheet_text, record_text, read_as, as_judged}

-- A text that reads and is what it has to be: the value that it reads as, and the rule or sheet that this is.
pub record TextRead (X : Type 0) : Type 0 where
  pub value : Value
  pub content : X

abbrev pub text_stage : {X : Type 0} → ℕ → (Value → Judged X) → Bytes → Stage (TextRead X)
text_stage which judge text = do
  v ← read_as which text
  x ← as_judged (judge v)
  passed (record { value = v; content = x })

-- 6: "the text reads, but is not a rule".
abbrev pub rule_stage : Bytes → Stage (TextRead Rule)
rule_stage text = text_stage rule_text rule_in text

-- 14: "the text reads, but is not a sheet".
abbrev pub sheet_stage : Bytes → Stage (TextRead Sheet)
sheet_stage text = text_stage sheet_text sheet_in text

-- A rule's text and a sheet's, and the types found. 13: "the kind check does not pass".
pub record TextsChecked : Type 0 where
  pub rule : TextRead Rule
  pub sheet : TextRead Sheet
  pub types : Types

abbrev pub check_stage : Bytes → Bytes → Stage TextsChecked
check_stage rule sheet = do
  r ← rule_stage rule
  s ← sheet_stage sheet
  ts ← as_judged (or_refuse NotAccepted (check r.content s.content))
  passed (record { rule = r; sheet = s; types = ts })

-- A sheet's text and a record's.
pub record TextsFitted : Type 0 where
  pub sheet : TextRead Sheet
  pub «record» : Value

abbrev pub fits_stage : Bytes → Bytes → Stage TextsFitted
fits_stage sheet record' = do
  s ← sheet_stage sheet
  v ← read_as record_text record'
  passed (record { sheet = s; «record» = v })

-- A rule's text and a record's.
pub record TextsRead : Type 0 where
  pub rule : TextRead Rule
  pub «record» : Value

abbrev pub evaluate_stage : Bytes → Bytes → Stage TextsRead
evaluate_stage rule record' = do
  r ← rule_stage rule
  v ← read_as record_text record'
  passed (record { rule = r; «record» = v })

-- All three.
pub record CheckedTextsRead : Type 0 where
  pub checked : TextsChecked
  pub «record» : Value

abbrev pub evaluate_checked_stage : Bytes → Bytes → Bytes → Stage CheckedTextsRead
evaluate_checked_stage rule sheet record' = do
  c ← check_stage rule sheet
  v ← read_as record_text record'
  passed (record { checked = c; «record» = v })
