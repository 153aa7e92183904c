-- Whole: the two lines of an answer, at the start of the bytes to be printed.
use mathlib.Core.Path.{◌≡◌, refl, ap, ◌∙◌}
use mathlib.Core.Bool.{Bool, true, false, cond}
use mathlib.Core.List.{[], ◌∷◌, ◌++◌}
use Prim.Native.Nat.{ℕ, ◌+◌, ◌≤◌}
use native.Mathlib.Omega.{arith}
use borrow.Author.Tests.{ne_eqb}
use lib.Dec.{eqb}
use lib.ListN.{length, take, length-append}
use lib.Seq.{length-take-le}
use Rattle.model.specs.Bytes.{Bytes, ascii}
use Rattle.model.specs.Judgement.{Judged, done, refuses, judged_number, Answer}
use Rattle.model.specs.Refusal.{number}
use Rattle.model.specs.declared.refusal.ReadFault.TheVariants.{NotJson, RepeatedName, LoneSurrogate, BadNumber, TooLarge}
use Rattle.model.specs.declared.refusal.Fault.TheVariants.{WrongKind, BadDate, OutOfRange}
use Rattle.model.specs.declared.refusal.EvalFault.TheVariants.{Operation, OutOfSteps}
use Rattle.model.specs.declared.refusal.Refusal.{Refusal}
use Rattle.model.specs.declared.refusal.Refusal.TheVariants.{InvalidArgument, Reading, NotRule, Evaluating, AnswerTooLarge, OutputTooShort, NotAccepted, NotSheet}
use Rattle.model.specs.Writing.{decimal}
use Rattle.print.specs.Contract.{Put}
use Rattle.print.specs.Laws.{put_then, decimal_20}
use Rattle.admit.specs.declared.Outcome.{Outcome}
use Rattle.admit.specs.Inner.{text_of, Answers, result_by, Begins}
use Rattle.admit.specs.Limits.{step_limit, output_bytes, limit_below, digits_room}
use Rattle.admit.specs.Printed.{answer_to, line, result_line, printed, printed_for}
use Rattle.admit.proofs.Entry.{steps_answer}
use Rattle.admit.proofs.Lines.{put_begins}

-- ---- numbers
-- A refusal's number is one of 1 to 14.
number_from_1 : (e : Refusal) → (1 ≤ number e) × (number e ≤ 14)
number_from_1 InvalidArgument = (omega arith, omega arith)
number_from_1 (Reading NotJson) = (omega arith, omega arith)
number_from_1 (Reading RepeatedName) = (omega arith, omega arith)
number_from_1 (Reading LoneSurrogate) = (omega arith, omega arith)
number_from_1 (Reading BadNumber) = (omega arith, omega arith)
number_from_1 (Reading TooLarge) = (omega arith, omega arith)
number_from_1 NotRule = (omega arith, omega arith)
number_from_1 (Evaluating (Operation WrongKind)) = (omega arith, omega arith)
number_from_1 (Evaluating (Operation BadDate)) = (omega arith, omega arith)
number_from_1 (Evaluating (Operation OutOfRange)) = (omega arith, omega arith)
number_from_1 (Evaluating OutOfSteps) = (omega arith, omega arith)
number_from_1 AnswerTooLarge = (omega arith, omega arith)
number_from_1 OutputTooShort = (omega arith, omega arith)
number_from_1 NotAccepted = (omega arith, omega arith)
number_from_1 NotSheet = (omega arith, omega arith)

number_to_14 : (j : Judged Bytes) → judged_number j ≤ 14
number_to_14 (done text) = omega arith
number_to_14 (refuses e) = (number_from_1 e).1

refusal_digits : {a : Answer} {o : Outcome} {O : Bytes} → Answers a o O → length (decimal o.refusal) ≤ 20
refusal_digits {a} {o} x = decimal_20 o.refusal (omega (arith, x.refusal, number_to_14 a.result))

-- ---- lengths
pub result_short : {a : Answer} {o : Outcome} {O : Bytes} → Answers a o O → length (take o.size O) ≤ output_bytes
result_short {o = o} {O} a = omega (arith, length-take-le o.size O a.within, a.within, a.room)

line_length : (word text : Bytes) → length (line word text) ≡ length word + (length text + 1)
line_length word text = length-append word (text ++ (10 ∷ [])) ∙ ap (λ (n : ℕ). length word + n) (length-append text (10 ∷ []))

result_length : (t : Bool) (k : ℕ) (text : Bytes) → length text ≤ output_bytes → length (decimal k) ≤ 20 → length (cond t (line (ascii "answer ") text) (line (ascii "refused ") (decimal k))) ≤ output_bytes + 29
result_length true k text h l = omega (arith, line_length (ascii "answer ") text)
result_length false k text h l = omega (arith, digits_room, line_length (ascii "refused ") (decimal k))

pub result_near : {a : Answer} {o : Outcome} {O d d' : Bytes} {r : ℕ} → Answers a o O → Put (result_by o.refusal (take o.size O)) 0 d r d' → r ≤ output_bytes + 64
result_near {o = o} {O} a p =
    let h = result_length (eqb o.refusal 0) o.refusal (take o.size O) (result_short a) (refusal_digits a) in
    omega (arith, p.end)

-- ---- the text
first_line : (j : Judged Bytes) → result_by (judged_number j) (text_of j) ≡ result_line j
first_line (done text) = refl
first_line (refuses e) = rw (ne_eqb (number e) 0 (λ z. omega (arith, (number_from_1 e).0)))

both_lines : {a : Answer} {o : Outcome} {O : Bytes} → Answers a o O → result_by o.refusal (take o.size O) ++ line (ascii "steps ") (decimal o.steps) ≡ printed a
both_lines {a} x = rw (x.refusal, x.steps, x.text, first_line a.result)

pub report_begins :
    (rule record' : Bytes) {o : Outcome} {O d d₁ d₂ : Bytes} {m r : ℕ}
    → Answers (answer_to rule record' step_limit output_bytes) o O
    → Put (result_by o.refusal (take o.size O)) 0 d m d₁
    → Put (line (ascii "steps ") (decimal o.steps)) m d₁ r d₂
    → length d ≡ output_bytes + 64
    → Begins (printed_for rule record') r d₂
unfolding printed_for
report_begins rule record' {o} {O} {d} x p q l =
    let first = result_by o.refusal (take o.size O) in
    let second = line (ascii "steps ") (decimal o.steps) in
    let few = steps_answer rule record' step_limit output_bytes in
    let h = result_length (eqb o.refusal 0) o.refusal (take o.size O) (result_short x) (refusal_digits x) in
    let k = line_length (ascii "steps ") (decimal o.steps) in
    let fits : length (first ++ second) ≤ length d = omega (arith, length-append first second, decimal_20 o.steps (omega (arith, x.steps, limit_below))) in
    rw (both_lines x) at (put_begins (put_then p q) fits)
