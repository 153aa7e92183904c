-- Demand3: demand 3 from bytes, at the entries. Statements only; the proofs are in Laws.Named and Laws.Replaced.
use Rattle.std.specs.Prelude.{◌++◌, ◌≡◌, ℕ, ◌≤◌}
use Rattle.model.specs.Bytes.{Bytes}
use Rattle.model.specs.Limits.{max_steps}
use Rattle.jehvrukam.specs.Evaluate.{Areas, Numbers, evaluate_entry}
use Rattle.jehvrukam.specs.EvaluateChecked.{CheckedAreas, CheckedNumbers, evaluate_checked_entry}
use Rattle.promises.specs.Calls.{Accepts, SaysFits, RunsNamed, written_by, written_by_checked, AnswersNamed, EndsSo}
use Rattle.promises.specs.Lengths.{SameEvaluate}
use Rattle.promises.specs.Replacement.{Replacement, RunsAlike, Alike}
use Rattle.promises.specs.Laws.Named as NamedLaws
use Rattle.promises.specs.Laws.Replaced as ReplacedLaws

-- ---- (a)
-- Whatever rule `jehvrukam_check` accepts, whatever record `jehvrukam_fits` says fits the same sheet, and whatever limit up to the largest: the run ends in
-- a value of a type whose bit is set in the words told, or in 9 or 10.
pub demand_3a : (rule sheet record' : Bytes) (words limit : ℕ) → Accepts rule sheet words → SaysFits sheet record' → limit ≤ max_steps → RunsNamed rule record' limit words
demand_3a = NamedLaws.demand_3a

-- So `jehvrukam_evaluate`, unless it gives 1, ends with 0, 9, 10, 11 or 12: never with 7 or 8.
pub never_7_or_8 :
    (rule sheet record' : Bytes) (words limit : ℕ) (a : Areas) (n : Numbers)
    → Accepts rule sheet words
    → SaysFits sheet record'
    → ¬ ((evaluate_entry rule record' limit a n).refusal ≡ 1)
    → EndsSo (evaluate_entry rule record' limit a n).refusal
never_7_or_8 = NamedLaws.never_7_or_8

-- And the text that it writes is that of a value of a type whose bit is set.
pub written_as_named :
    (rule sheet record' : Bytes) (words limit : ℕ) (a : Areas) (n : Numbers)
    → Accepts rule sheet words
    → SaysFits sheet record'
    → (evaluate_entry rule record' limit a n).refusal ≡ 0
    → AnswersNamed rule record' limit (evaluate_entry rule record' limit a n).numbers.steps words (evaluate_entry rule record' limit a n).numbers.size (written_by (evaluate_entry rule record' limit a n))
written_as_named = NamedLaws.written_as_named

-- The same in one call of `jehvrukam_evaluate_checked`, where it tells that the record fits.
pub checked_never_7_or_8 :
    (rule sheet record' : Bytes) (limit : ℕ) (a : CheckedAreas) (n : CheckedNumbers)
    → ¬ ((evaluate_checked_entry rule sheet record' limit a n).refusal ≡ 1)
    → (evaluate_checked_entry rule sheet record' limit a n).numbers.fit ≡ 1
    → EndsSo (evaluate_checked_entry rule sheet record' limit a n).refusal
checked_never_7_or_8 = NamedLaws.checked_never_7_or_8

-- And what it then writes is the text of a value of a type whose bit is set in the words that it tells.
pub checked_written_as_named :
    (rule sheet record' : Bytes) (limit : ℕ) (a : CheckedAreas) (n : CheckedNumbers)
    → (evaluate_checked_entry rule sheet record' limit a n).refusal ≡ 0
    → (evaluate_checked_entry rule sheet record' limit a n).numbers.fit ≡ 1
    → AnswersNamed rule record' limit (evaluate_checked_entry rule sheet record' limit a n).numbers.steps (evaluate_checked_entry rule sheet record' limit a n).numbers.words (evaluate_checked_entry rule sheet record' limit a n).numbers.size (written_by_checked (evaluate_checked_entry rule sheet record' limit a n))
checked_written_as_named = NamedLaws.checked_written_as_named

-- The words that `jehvrukam_check` tells are not 0: it found at least one type.
pub words_some : (rule sheet : Bytes) (words : ℕ) → Accepts rule sheet words → ¬ (words ≡ 0)
words_some = NamedLaws.words_some

-- ---- (b)
-- The bytes of an operand rule that the run never begins give way to another rule's, and the whole is a rule (Replacement.antt): both runs end alike, in value
-- or refusal and in steps.
pub demand_3b :
    (text record' before old after new : Bytes) (limit : ℕ) (h : Replacement text record' limit before old after new)
    → RunsAlike h.texts.rule.content h.whole.content h.texts limit
demand_3b = ReplacedLaws.demand_3b

-- So both calls of `jehvrukam_evaluate` are alike, with the same record, limit and lengths of areas, whatever the areas and the numbers held.
pub demand_3b_entry :
    (text record' before old after new : Bytes) (limit : ℕ) (a b : Areas) (m n : Numbers)
    → Replacement text record' limit before old after new
    → SameEvaluate a b
    → Alike (evaluate_entry (before ++ (new ++ after)) record' limit b n) (evaluate_entry text record' limit a m)
demand_3b_entry = ReplacedLaws.demand_3b_entry
