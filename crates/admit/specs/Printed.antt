-- Printed: what the program prints for the bytes of its two files. 01, Both sides of the line: "The program reads rule.json and record.json,
-- limit 1,000, output area 16,384 bytes. A missing file counts as empty; places are not printed."
use Rattle.std.specs.Prelude.{[], ◌∷◌, ◌++◌, ℕ}
use Rattle.model.specs.Bytes.{Bytes, ascii}
use Rattle.model.specs.Judgement.{Judged, done, refuses, Answer, answer_of}
use Rattle.model.specs.Refusal.{number}
use Rattle.model.specs.Writing.{decimal}
use Rattle.pipeline.specs.Stage.{Stage, passed, refused}
use Rattle.pipeline.specs.Texts.{TextsRead, evaluate_stage}
use Rattle.admit.specs.Limits.{step_limit, output_bytes}

-- ---- the answer to two texts: "rule read; 6; .. record read" (pipeline/Texts.antt: evaluate_stage), then "evaluation; 11; 12". "Before evaluation steps are 0."
abbrev pub answer_after : Stage TextsRead → ℕ → ℕ → Answer
answer_after (refused e which place) limit room = record { result = refuses e; steps_begun = 0 }
answer_after (passed t) limit room = answer_of t.rule.content t.«record» limit room

abbrev pub answer_to : Bytes → Bytes → ℕ → ℕ → Answer
answer_to rule record' limit room = answer_after (evaluate_stage rule record') limit room

-- ---- its two lines: `answer TEXT` or `refused N`, then `steps N`
abbrev pub line : Bytes → Bytes → Bytes
line word text = word ++ (text ++ (10 ∷ []))

abbrev pub result_line : Judged Bytes → Bytes
result_line (done text) = line (ascii "answer ") text
result_line (refuses e) = line (ascii "refused ") (decimal (number e))

abbrev pub printed : Answer → Bytes
printed a = result_line a.result ++ line (ascii "steps ") (decimal a.steps_begun)

unfoldable pub printed_for : Bytes → Bytes → Bytes
printed_for rule record' = printed (answer_to rule record' step_limit output_bytes)
