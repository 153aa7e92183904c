-- EvaluateChecked: what include/jehvrukam.h says of `jehvrukam_evaluate_checked` beside its contract. Statements only; the proofs are in Laws.Checked.
use Rattle.std.specs.Prelude.{◌↔◌, ◌≡◌, ℕ, length}
use Rattle.model.specs.Bytes.{Bytes}
use Rattle.jehvrukam.specs.Evaluate.{Areas, Numbers, evaluate_entry}
use Rattle.jehvrukam.specs.EvaluateChecked.{CheckedAreas, CheckedNumbers, evaluate_checked_entry}
use Rattle.promises.specs.Calls.{Begins, AfterEvaluation, SameAnswer}
use Rattle.promises.specs.Laws.Checked as CheckedLaws

-- After any answer but 1, the words are not 0 exactly if evaluation has begun.
pub words_tell_begun :
    (rule sheet record' : Bytes) (limit : ℕ) (a : CheckedAreas) (n : CheckedNumbers)
    → ¬ ((evaluate_checked_entry rule sheet record' limit a n).refusal ≡ 1)
    → ¬ ((evaluate_checked_entry rule sheet record' limit a n).numbers.words ≡ 0) ↔ Begins rule sheet record'
words_tell_begun = CheckedLaws.words_tell_begun

-- And it has begun exactly if the answer is 0 or from 7 to 12.
pub begun_by_number :
    (rule sheet record' : Bytes) (limit : ℕ) (a : CheckedAreas) (n : CheckedNumbers)
    → ¬ ((evaluate_checked_entry rule sheet record' limit a n).refusal ≡ 1)
    → AfterEvaluation (evaluate_checked_entry rule sheet record' limit a n).refusal ↔ Begins rule sheet record'
begun_by_number = CheckedLaws.begun_by_number

-- After 0 or 7 to 12, refusal, steps, length and output are those of any call of `jehvrukam_evaluate` on the same rule, record, limit and output length that
-- does not give 1.
pub same_as_evaluate :
    (rule sheet record' : Bytes) (limit : ℕ) (a : CheckedAreas) (n : CheckedNumbers) (b : Areas) (m : Numbers)
    → AfterEvaluation (evaluate_checked_entry rule sheet record' limit a n).refusal
    → length a.work.output ≡ length b.work.output
    → ¬ ((evaluate_entry rule record' limit b m).refusal ≡ 1)
    → SameAnswer (evaluate_checked_entry rule sheet record' limit a n) (evaluate_entry rule record' limit b m)
same_as_evaluate = CheckedLaws.same_as_evaluate
