-- Inner: what the functions of the program do.
use Rattle.std.specs.Prelude.{◌≡◌, cond, [], ℕ, ◌+◌, ◌≤◌, eqb, length, take}
use Rattle.model.specs.Bytes.{Bytes, ascii}
use Rattle.model.specs.Judgement.{Judged, done, refuses, judged_number, Answer}
use Rattle.model.specs.Writing.{decimal}
use Rattle.admit.specs.Limits.{output_bytes}
use Rattle.admit.specs.Printed.{line}
use Rattle.admit.specs.declared.Outcome.{Outcome}

-- The text of an answer; a refusal has none.
abbrev pub text_of : Judged Bytes → Bytes
text_of (done text) = text
text_of (refuses e) = []

-- What the entry told, and the answer's text at the start of the output.
pub record Answers (a : Answer) (o : Outcome) (output : Bytes) : Type 0 where
  pub refusal : o.refusal ≡ judged_number a.result
  pub steps : o.steps ≡ a.steps_begun
  pub room : length output ≡ output_bytes
  pub within : o.size ≤ length output
  pub text : take o.size output ≡ text_of a.result

-- The first line, by the refusal's number.
abbrev pub result_by : ℕ → Bytes → Bytes
result_by k text = cond (eqb k 0) (line (ascii "answer ") text) (line (ascii "refused ") (decimal k))

-- Where a line may begin, and how long its word and its text may be: far from the end of the machine's numbers.
pub record Near (at : ℕ) (word text : Bytes) : Type 0 where
  pub place : at ≤ output_bytes + 64
  pub few : length word ≤ 8
  pub short : length text ≤ output_bytes

-- A text stands at the start of the bytes.
pub record Begins (text : Bytes) (size : ℕ) (bytes : Bytes) : Type 0 where
  pub within : size ≤ length bytes
  pub part : take size bytes ≡ text
