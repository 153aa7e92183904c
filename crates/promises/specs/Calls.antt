-- Calls: what calls of the entries say of bytes, in the terms that the theorems speak in. The entries are those of the contracts in crates/jehvrukam/src/lib.rt.
use Rattle.std.specs.Prelude.{◌⊎◌, ◌≡◌, ℕ, ◌≤◌, T, length, take}
use Rattle.model.specs.Bytes.{Bytes}
use Rattle.model.specs.Eval.{run, Outcome, value, refusal, outcome}
use Rattle.model.specs.Refusal.{eval_number}
use Rattle.model.specs.Run.{steps}
use Rattle.model.specs.Textual.{textual}
use Rattle.model.specs.Value.{Value, instant_free}
use Rattle.model.specs.Writing.{value_text}
use Rattle.syntax.specs.Read.{done, read}
use Rattle.pipeline.specs.Stage.{passed}
use Rattle.pipeline.specs.Texts.{TextsRead, evaluate_stage, CheckedTextsRead, evaluate_checked_stage}
use Rattle.jehvrukam.specs.Check.{CheckAreas, CheckNumbers, check_entry}
use Rattle.jehvrukam.specs.Entry.{Entry}
use Rattle.jehvrukam.specs.Evaluate.{Evaluated}
use Rattle.jehvrukam.specs.EvaluateChecked.{CheckedAreas, CheckedNumbers}
use Rattle.jehvrukam.specs.Fits.{FitsAreas, FitsNumbers, fits_entry}
use Rattle.promises.specs.Words.{BelongsTo}

-- `jehvrukam_check`, in some areas, accepts the rule's bytes with the sheet's, and tells these words.
pub record Accepts (rule sheet : Bytes) (words : ℕ) : Type 0 where
  pub areas : CheckAreas
  pub numbers : CheckNumbers
  pub accepts : (check_entry rule sheet areas numbers).refusal ≡ 0
  pub tells : (check_entry rule sheet areas numbers).numbers.words ≡ words

-- `jehvrukam_fits`, in some areas, says that the record's bytes fit the sheet's.
pub record SaysFits (sheet record' : Bytes) : Type 0 where
  pub areas : FitsAreas
  pub numbers : FitsNumbers
  pub answers : (fits_entry sheet record' areas numbers).refusal ≡ 0
  pub says : (fits_entry sheet record' areas numbers).numbers.fit ≡ 1

-- The run of a rule's text on a record's: both texts read, the first is a rule, and the run ends so, after so many steps.
pub record Runs (rule record' : Bytes) (limit : ℕ) (o : Outcome) (begun : ℕ) : Type 0 where
  pub texts : TextsRead
  pub read_so : evaluate_stage rule record' ≡ passed texts
  pub outcome_is : outcome (run texts.rule.content texts.«record» limit) ≡ o
  pub steps_are : steps (run texts.rule.content texts.«record» limit) ≡ begun

-- It ends in a value of a type whose bit is set, or in 9 or 10.
abbrev pub EndsNamed : ℕ → Outcome → Type 0
EndsNamed words (value v) = BelongsTo words v
EndsNamed words (refusal e) = (eval_number e ≡ 9) ⊎ (eval_number e ≡ 10)

pub record RunsNamed (rule record' : Bytes) (limit words : ℕ) : Type 0 where
  pub ends : Outcome
  pub begun : ℕ
  pub runs : Runs rule record' limit ends begun
  pub named : EndsNamed words ends

-- ---- what is written
-- The first `length` bytes of the output.
abbrev pub written_by : Evaluated → Bytes
written_by e = take e.numbers.size e.areas.work.output

abbrev pub written_by_checked : Entry CheckedNumbers CheckedAreas → Bytes
written_by_checked e = take e.numbers.size e.areas.work.output

-- They are the text of the value in which the run ends, after so many steps, all of it, and of one byte at least. They read as this value, with the text of
-- each date-time in its place, and so as the value itself where it holds none.
pub record Answers (rule record' : Bytes) (limit begun size : ℕ) (text : Bytes) : Type 0 where
  pub answer : Value
  pub runs : Runs rule record' limit (value answer) begun
  pub is_text_lem : text ≡ value_text answer
  pub length_is : length text ≡ size
  pub not_empty : 1 ≤ size
  pub reads : read text ≡ done (textual answer)
  pub reads_back : T (instant_free answer) → read text ≡ done answer

-- And this value belongs to a type whose bit is set.
pub record AnswersNamed (rule record' : Bytes) (limit begun words size : ℕ) (text : Bytes) : Type 0 where
  pub answers : Answers rule record' limit begun size text
  pub named : BelongsTo words answers.answer

-- ---- how an entry ends
-- With a value, with 9 or 10, or writing gives 11 or 12: not with 7 or 8.
pub data EndsSo : ℕ → Type 0 where
  in_value : EndsSo 0
  in_range_lem : EndsSo 9
  in_steps : EndsSo 10
  in_size : EndsSo 11
  in_output : EndsSo 12

-- With a sheet, evaluation has begun: the three texts read, the first is a rule, the second a sheet, and the check accepts.
pub record Begins (rule sheet record' : Bytes) : Type 0 where
  pub texts : CheckedTextsRead
  pub read_so : evaluate_checked_stage rule sheet record' ≡ passed texts

-- 0, or 7 to 12.
abbrev pub AfterEvaluation : ℕ → Type 0
AfterEvaluation k = (k ≡ 0) ⊎ ((7 ≤ k) × (k ≤ 12))

-- An answer with a sheet, and one without: refusal, steps, length and output are the same.
pub record SameAnswer (x : Entry CheckedNumbers CheckedAreas) (y : Evaluated) : Type 0 where
  pub refusal : x.refusal ≡ y.refusal
  pub steps : x.numbers.steps ≡ y.numbers.steps
  pub size : x.numbers.size ≡ y.numbers.size
  pub output : x.areas.work.output ≡ y.areas.work.output
