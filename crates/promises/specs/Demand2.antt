-- Demand2: of demand 2, from bytes at the entries, that an answer is the text of the value that evaluation gave, and reads back. That reading, shape check,
-- kind check, value and steps are those of the definitions is said by the contracts. Statements only; the proofs are in Laws.Written.
use Rattle.std.specs.Prelude.{◌≡◌, ℕ}
use Rattle.model.specs.Bytes.{Bytes}
use Rattle.jehvrukam.specs.Evaluate.{Areas, Numbers, evaluate_entry}
use Rattle.jehvrukam.specs.EvaluateChecked.{CheckedAreas, CheckedNumbers, evaluate_checked_entry}
use Rattle.promises.specs.Calls.{written_by, written_by_checked, Answers}
use Rattle.promises.specs.Laws.Written as WrittenLaws

-- If `jehvrukam_evaluate` gives 0, the first `length` bytes of the output are the text of the value that evaluation gave, after the steps that are told. They
-- read back as that value where it holds no date-time.
pub evaluate_reads_back :
    (rule record' : Bytes) (limit : ℕ) (a : Areas) (n : Numbers)
    → (evaluate_entry rule record' limit a n).refusal ≡ 0
    → Answers rule record' limit (evaluate_entry rule record' limit a n).numbers.steps (evaluate_entry rule record' limit a n).numbers.size (written_by (evaluate_entry rule record' limit a n))
evaluate_reads_back = WrittenLaws.evaluate_reads_back

-- So it is with `jehvrukam_evaluate_checked`.
pub checked_reads_back :
    (rule sheet record' : Bytes) (limit : ℕ) (a : CheckedAreas) (n : CheckedNumbers)
    → (evaluate_checked_entry rule sheet record' limit a n).refusal ≡ 0
    → Answers rule record' limit (evaluate_checked_entry rule sheet record' limit a n).numbers.steps (evaluate_checked_entry rule sheet record' limit a n).numbers.size (written_by_checked (evaluate_checked_entry rule sheet record' limit a n))
checked_reads_back = WrittenLaws.checked_reads_back
