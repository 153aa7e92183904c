-- Entry: what the entry for C gives is the answer to the two texts.
use mathlib.Core.Path.{◌≡◌, refl, ◌∙◌}
use mathlib.Core.Bool.{false}
use Prim.Native.Nat.{ℕ, ◌-◌, ◌≤◌}
use native.Mathlib.Omega.{arith}
use borrow.Author.Tests.{le-ltb}
use lib.Dec.{ltb}
use lib.ListN.{length, take, replicate, length-append}
use lib.Seq.{take-append_seam}
use Rattle.model.specs.Bytes.{Bytes}
use Rattle.model.specs.Judgement.{Judged, done, refuses, judged_number, Answer}
use Rattle.model.specs.Limits.{max_steps}
use Rattle.model.proofs.Main.{steps_within_limit}
use Rattle.model.specs.Refusal.{number}
use Rattle.model.specs.declared.refusal.Refusal.{Refusal}
use Rattle.syntax.specs.Layout.{padded, table_bytes, strings_bytes}
use Rattle.pipeline.specs.Stage.{Stage, passed, refused}
use Rattle.pipeline.specs.Texts.{TextsRead, evaluate_stage}
use Rattle.jehvrukam.specs.Contract.{entry, areas_of, numbers_of}
use Rattle.jehvrukam.specs.Entry.{cells_bytes}
use Rattle.jehvrukam.specs.Evaluate.{Areas, Numbers, Evaluated, is_invalid, zeros, answered, evaluate_answer, evaluate_entry}
use Rattle.admit.specs.Inner.{text_of, Answers}
use Rattle.admit.specs.Limits.{step_limit, output_bytes, limit_valid}
use Rattle.admit.specs.Printed.{answer_after, answer_to}

-- What was told is an answer, its text at the start of the output.
record Shows (a : Answer) (e : Evaluated) : Type 0 where
  refusal : e.refusal ≡ judged_number a.result
  steps : e.numbers.steps ≡ a.steps_begun
  within : e.numbers.size ≤ length e.areas.work.output
  text : take e.numbers.size e.areas.work.output ≡ text_of a.result

shows_refusal : (a : Areas) (k : Refusal) (which place steps : ℕ) → Shows (record { result = refuses k; steps_begun = steps }) (entry (number k) (numbers_of which place steps 0) (zeros a))
shows_refusal a k which place steps = record { refusal = refl; steps = refl; within = omega arith; text = refl }

shows_answer : (a : Areas) (t : TextsRead) (j : Judged Bytes) (steps : ℕ) → Shows (record { result = j; steps_begun = steps }) (answered a t j steps)
unfolding padded
shows_answer a t (done x) steps =
    let rest : Bytes = replicate (length a.work.output - length x) 0 in
    record { refusal = refl; steps = refl; within = omega (arith, length-append x rest); text = take-append_seam x rest }
shows_answer a t (refuses e) steps = shows_refusal a e 0 0 steps

shows_stage : (a : Areas) (limit : ℕ) (x : Stage TextsRead) → Shows (answer_after x limit (length a.work.output)) (evaluate_answer a limit x)
shows_stage a limit (refused e which place) = shows_refusal a e which place 0
shows_stage a limit (passed t) = shows_answer a t _ _

-- Work areas of their stated sizes, and an output of the program's.
pub record Lent (T A R B C O : Bytes) : Type 0 where
  pub rule_rows : length T ≡ table_bytes
  pub rule_text_lem : length A ≡ strings_bytes
  pub record_rows : length R ≡ table_bytes
  pub record_text_lem : length B ≡ strings_bytes
  pub heap : length C ≡ cells_bytes
  pub room : length O ≡ output_bytes

enough : {n m : ℕ} → n ≡ m → ltb n m ≡ false
enough {n} {m} e = le-ltb n m (omega arith)

-- Areas that are lent so are valid.
valid : {T A R B C O : Bytes} → Lent T A R B C O → is_invalid step_limit (areas_of T A R B C O) ≡ false
valid l = rw (le-ltb max_steps step_limit limit_valid, enough l.heap, enough l.rule_rows, enough l.rule_text_lem, enough l.record_rows, enough l.record_text_lem)

-- The entry under a limit that is valid with areas that are large enough.
shows_entry : (rule record' : Bytes) (limit : ℕ) (a : Areas) (n : Numbers) → is_invalid limit a ≡ false → Shows (answer_to rule record' limit (length a.work.output)) (evaluate_entry rule record' limit a n)
shows_entry rule record' limit a n e = rw (e, evaluate_entry) (shows_stage a limit (evaluate_stage rule record'))

pub entry_answers :
    (rule record' : Bytes) {T A R B C O : Bytes} (a : Areas) (n : Numbers) {k which place steps size : ℕ}
    → Lent T A R B C O
    → length a.work.output ≡ length O
    → entry k (numbers_of which place steps size) a ≡ evaluate_entry rule record' step_limit (areas_of T A R B C O) n
    → Answers (answer_to rule record' step_limit output_bytes) (record { refusal = k; steps = steps; size = size }) a.work.output
entry_answers rule record' {T} {A} {R} {B} {C} {O} a n {k} {which} {place} {steps} {size} l kept e =
    let o = l.room in
    let s : Shows (answer_to rule record' step_limit (length O)) (entry k (numbers_of which place steps size) a) = rw e (shows_entry rule record' step_limit (areas_of T A R B C O) n (valid l)) in
    let t : Shows (answer_to rule record' step_limit output_bytes) (entry k (numbers_of which place steps size) a) = rw o at s in
    record { refusal = t.refusal; steps = t.steps; room = kept ∙ o; within = t.within; text = t.text }

-- ---- steps: at most as many as the limit
steps_stage : (x : Stage TextsRead) (limit room : ℕ) → (answer_after x limit room).steps_begun ≤ limit
steps_stage (refused e which place) limit room = omega arith
steps_stage (passed t) limit room = steps_within_limit t.rule.content t.«record» limit

pub steps_answer : (rule record' : Bytes) (limit room : ℕ) → (answer_to rule record' limit room).steps_begun ≤ limit
steps_answer rule record' = steps_stage (evaluate_stage rule record')
