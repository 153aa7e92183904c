-- Checked: with a sheet, when evaluation has begun, and that its answer is the one without a sheet.
use Rattle.std.specs.Prelude.{false, ◌||◌, ◌↔◌, ◌≡◌, refl, ℕ, ◌≤◌, length, replicate}
use Rattle.std.proofs.Common.{inl, inr, sym, ap, subst, ◌∙◌, arith}
use Rattle.std.specs.Prelude.{Option, None, Some}
use Rattle.model.specs.Bytes.{Bytes}
use Rattle.model.specs.Eval.{run, Outcome, value, refusal, outcome}
use Rattle.model.specs.Judgement.{Judged, done, refuses, judged_number, sheet_in, or_refuse, written_within, written, Answer, answer_of}
use Rattle.model.proofs.Laws.Logic.{or_false_l, or_false_r}
use Rattle.model.proofs.Main.{found_some}
use Rattle.model.specs.Refusal.{number}
use Rattle.model.specs.declared.refusal.ReadFault.TheVariants.{NotJson, RepeatedName, LoneSurrogate, BadNumber, TooLarge}
use Rattle.model.specs.declared.refusal.Fault.TheVariants.{WrongKind, BadDate, OutOfRange}
use Rattle.model.specs.declared.refusal.EvalFault.TheVariants.{Operation, OutOfSteps}
use Rattle.model.specs.declared.refusal.Refusal.{Refusal}
use Rattle.model.specs.declared.refusal.Refusal.TheVariants.{NotRule, NotSheet, NotAccepted}
use Rattle.model.specs.Rule.{Rule}
use Rattle.model.specs.Shape.{shape}
use Rattle.model.specs.Sheet.{Sheet, sheet_of}
use Rattle.model.specs.TypeCheck.{check}
use Rattle.model.specs.Types.{Types, type_bits}
use Rattle.model.specs.Value.{Value}
use Rattle.syntax.specs.Layout.{padded}
use Rattle.syntax.specs.Read.{Read}
use Rattle.syntax.specs.Read as readings
use Rattle.pipeline.specs.Areas.{is_short}
use Rattle.pipeline.specs.Laws.Stages.{text_held, not_refused, check_held}
use Rattle.pipeline.specs.Stage.{Stage, passed, refused, ◌>>=◌, rule_text, sheet_text, record_text, as_read, read_as, as_judged}
use Rattle.pipeline.specs.Texts.{TextRead, text_stage, rule_stage, sheet_stage, TextsChecked, check_stage, evaluate_stage, CheckedTextsRead, evaluate_checked_stage}
use Rattle.jehvrukam.specs.Entry.{Entry, cannot_run}
use Rattle.jehvrukam.specs.Evaluate.{Areas, Numbers, Evaluated, is_invalid, answered, evaluate_answer, evaluate_entry}
use Rattle.jehvrukam.specs.EvaluateChecked.{CheckedAreas, CheckedNumbers, is_checked_invalid, checked_answered, evaluate_checked_answer, evaluate_checked_entry}
use Rattle.promises.specs.Calls.{Begins, AfterEvaluation, SameAnswer}
use Rattle.promises.specs.Laws.Bits.{bits_some}
use Rattle.promises.specs.Laws.Entries.{behind, written_number, checked_held, unsheeted, unsheeted_read}

-- ---- the numbers of refusals
-- Before evaluation: 2 to 6, 13 and 14.
record Early (k : ℕ) : Type 0 where
  not_0 : ¬ (k ≡ 0)
  not_between : 7 ≤ k → ¬ (k ≤ 12)

abbrev EarlyStage : {A : Type 0} → Stage A → Type 0
EarlyStage (passed a) = Unit {0}
EarlyStage (refused e w p) = Early (number e)

early_bind : {A B : Type 0} (x : Stage A) (f : A → Stage B) → EarlyStage x → ((a : A) → EarlyStage (f a)) → EarlyStage (x >>= f)
early_bind (passed a) f h k = k a
early_bind (refused e w p) f h k = h

read_early : (which : ℕ) (r : Read) → EarlyStage (as_read which r)
read_early which (readings.done v) = tt
read_early which (readings.refuse NotJson p) = record { not_0 = λ e. omega arith; not_between = λ l m. omega arith }
read_early which (readings.refuse RepeatedName p) = record { not_0 = λ e. omega arith; not_between = λ l m. omega arith }
read_early which (readings.refuse LoneSurrogate p) = record { not_0 = λ e. omega arith; not_between = λ l m. omega arith }
read_early which (readings.refuse BadNumber p) = record { not_0 = λ e. omega arith; not_between = λ l m. omega arith }
read_early which (readings.refuse TooLarge p) = record { not_0 = λ e. omega arith; not_between = λ l m. omega arith }

judged_early : {X : Type 0} (e : Refusal) (o : Option X) → Early (number e) → EarlyStage (as_judged (or_refuse e o))
judged_early e None h = h
judged_early e (Some x) h = tt

text_early : {X : Type 0} (which : ℕ) (e : Refusal) (f : Value → Option X) (s : Bytes) → Early (number e) → EarlyStage (text_stage which (λ v. or_refuse e (f v)) s)
text_early {X} which e f s h = early_bind (read_as which s) judged (read_early which (readings.read s)) (λ v. early_bind (as_judged (or_refuse e (f v))) (both v) (judged_early e (f v) h) (λ x. tt))
  where
    both : Value → X → Stage (TextRead X)
    both v x = passed (record { value = v; content = x })

    judged : Value → Stage (TextRead X)
    judged v = as_judged (or_refuse e (f v)) >>= both v

before_13 : Early (number NotAccepted)
before_13 = record { not_0 = λ e. omega arith; not_between = λ l m. omega arith }

before_14 : Early (number NotSheet)
before_14 = record { not_0 = λ e. omega arith; not_between = λ l m. omega arith }

before_6 : Early (number NotRule)
before_6 = record { not_0 = λ e. omega arith; not_between = λ l m. omega arith }

check_early : (rule sheet : Bytes) → EarlyStage (check_stage rule sheet)
check_early rule sheet = early_bind (rule_stage rule) with_rule (text_early rule_text NotRule shape rule before_6) (λ r. early_bind (sheet_stage sheet) (with_sheet r) (text_early sheet_text NotSheet sheet_of sheet before_14) (λ s. early_bind (accepted r s) (all_three r s) (judged_early NotAccepted (check r.content s.content) before_13) (λ ts. tt)))
  where
    accepted : TextRead Rule → TextRead Sheet → Stage Types
    accepted r s = as_judged (or_refuse NotAccepted (check r.content s.content))

    all_three : TextRead Rule → TextRead Sheet → Types → Stage TextsChecked
    all_three r s ts = passed (record { rule = r; sheet = s; types = ts })

    with_sheet : TextRead Rule → TextRead Sheet → Stage TextsChecked
    with_sheet r s = accepted r s >>= all_three r s

    with_rule : TextRead Rule → Stage TextsChecked
    with_rule r = sheet_stage sheet >>= with_sheet r

stage_early : (rule sheet record' : Bytes) → EarlyStage (evaluate_checked_stage rule sheet record')
stage_early rule sheet record' = early_bind (check_stage rule sheet) with_record (check_early rule sheet) (λ c. early_bind (read_as record_text record') (both c) (read_early record_text (readings.read record')) (λ v. tt))
  where
    both : TextsChecked → Value → Stage CheckedTextsRead
    both c v = passed (record { checked = c; «record» = v })

    with_record : TextsChecked → Stage CheckedTextsRead
    with_record c = read_as record_text record' >>= both c

-- From evaluation on: 0, or 7 to 12.
told_number : (a : CheckedAreas) (t : CheckedTextsRead) (j : Judged Bytes) (k : ℕ) → (checked_answered a t j k).refusal ≡ judged_number j
told_number a t (done x) k = refl
told_number a t (refuses x) k = refl

judged_after : (a : CheckedAreas) (t : CheckedTextsRead) (room : ℕ) (o : Outcome) (k : ℕ) → AfterEvaluation (checked_answered a t (written room o) k).refusal
judged_after a t room (refusal (Operation WrongKind)) k = inr (omega arith, omega arith)
judged_after a t room (refusal (Operation BadDate)) k = inr (omega arith, omega arith)
judged_after a t room (refusal (Operation OutOfRange)) k = inr (omega arith, omega arith)
judged_after a t room (refusal OutOfSteps) k = inr (omega arith, omega arith)
judged_after a t room (value v) k = subst AfterEvaluation (sym (told_number a t (written_within room v) k)) (written_number AfterEvaluation room v (inl refl) (inr (omega arith, omega arith)) (inr (omega arith, omega arith)))

-- ---- when evaluation has begun
pub types_some : (rule sheet : Bytes) (t : TextsChecked) → check_stage rule sheet ≡ passed t → ¬ (type_bits t.types ≡ 0)
types_some rule sheet t e =
    let c = check_held rule sheet t e in
    let s = text_held sheet_text sheet_in sheet t.sheet c.sheet_passes in
    bits_some t.types (found_some t.sheet.value t.rule.content t.sheet.content t.types (not_refused NotSheet (sheet_of t.sheet.value) t.sheet.content s.judged) c.checks)

pub told_words : (a : CheckedAreas) (t : CheckedTextsRead) (j : Judged Bytes) (k : ℕ) → (checked_answered a t j k).numbers.words ≡ type_bits t.checked.types
told_words a t (done x) k = refl
told_words a t (refuses x) k = refl

module _ (rule sheet record' : Bytes) (limit : ℕ) (a : CheckedAreas) (n : CheckedNumbers) (not-1 : ¬ ((evaluate_checked_entry rule sheet record' limit a n).refusal ≡ 1)) where
  is : evaluate_checked_entry rule sheet record' limit a n ≡ evaluate_checked_answer a limit (evaluate_checked_stage rule sheet record')
  is = (behind (is_checked_invalid limit a) n a (evaluate_checked_answer a limit (evaluate_checked_stage rule sheet record')) not-1).is

  abbrev answer : CheckedTextsRead → Answer
  answer t = answer_of t.checked.rule.content t.«record» limit (length a.work.output)

  pub words_tell_begun : ¬ ((evaluate_checked_entry rule sheet record' limit a n).numbers.words ≡ 0) ↔ Begins rule sheet record'
  words_tell_begun = (λ h. there (evaluate_checked_stage rule sheet record') refl (λ z. h (ap (λ (e : Entry CheckedNumbers CheckedAreas). e.numbers.words) is ∙ z)), λ b z. back b (sym (ap (λ (e : Entry CheckedNumbers CheckedAreas). e.numbers.words) is) ∙ z))
    where
      there : (x : Stage CheckedTextsRead) → evaluate_checked_stage rule sheet record' ≡ x → ¬ ((evaluate_checked_answer a limit x).numbers.words ≡ 0) → Begins rule sheet record'
      there (passed t) e h = record { texts = t; read_so = e }
      there (refused k w p) e h = absurd (h refl)

      back : (b : Begins rule sheet record') → ¬ ((evaluate_checked_answer a limit (evaluate_checked_stage rule sheet record')).numbers.words ≡ 0)
      back b z = types_some rule sheet b.texts.checked (checked_held rule sheet record' b.texts b.read_so).check_passes (sym (told_words a b.texts (answer b.texts).result (answer b.texts).steps_begun) ∙ (sym (ap (λ (x : Stage CheckedTextsRead). (evaluate_checked_answer a limit x).numbers.words) b.read_so) ∙ z))

  pub begun_by_number : AfterEvaluation (evaluate_checked_entry rule sheet record' limit a n).refusal ↔ Begins rule sheet record'
  begun_by_number = (λ h. there (evaluate_checked_stage rule sheet record') refl (stage_early rule sheet record') (subst (λ (e : Entry CheckedNumbers CheckedAreas). AfterEvaluation e.refusal) is h), λ b. subst (λ (e : Entry CheckedNumbers CheckedAreas). AfterEvaluation e.refusal) (sym is) (back b))
    where
      there : (x : Stage CheckedTextsRead) → evaluate_checked_stage rule sheet record' ≡ x → EarlyStage x → AfterEvaluation (evaluate_checked_answer a limit x).refusal → Begins rule sheet record'
      there (passed t) e h k = record { texts = t; read_so = e }
      there (refused r w p) e h (inl k) = absurd (h.not_0 k)
      there (refused r w p) e h (inr k) = absurd (h.not_between k.0 k.1)

      back : Begins rule sheet record' → AfterEvaluation (evaluate_checked_answer a limit (evaluate_checked_stage rule sheet record')).refusal
      back b = rw b.read_so (judged_after a b.texts (length a.work.output) (outcome (run b.texts.checked.rule.content b.texts.«record» limit)) (answer b.texts).steps_begun)

-- ---- the answer without the sheet
same_answered : (a : CheckedAreas) (b : Areas) (t : CheckedTextsRead) (j : Judged Bytes) (k : ℕ) → length a.work.output ≡ length b.work.output → SameAnswer (checked_answered a t j k) (answered b (unsheeted t) j k)
same_answered a b t (done text) k e = record { refusal = refl; steps = refl; size = refl; output = λ i. padded (e i) text }
same_answered a b t (refuses r) k e = record { refusal = refl; steps = refl; size = refl; output = λ i. replicate (e i) 0 }

after_not_1 : {k : ℕ} → AfterEvaluation k → ¬ (k ≡ 1)
after_not_1 (inl e) f = omega arith
after_not_1 (inr h) f = omega (arith, h.0)

same_valid :
    (rule sheet record' : Bytes) (limit : ℕ) (a : CheckedAreas) (n : CheckedNumbers) (b : Areas) (m : Numbers)
    → AfterEvaluation (evaluate_checked_entry rule sheet record' limit a n).refusal
    → length a.work.output ≡ length b.work.output
    → evaluate_entry rule record' limit b m ≡ evaluate_answer b limit (evaluate_stage rule record')
    → SameAnswer (evaluate_checked_entry rule sheet record' limit a n) (evaluate_entry rule record' limit b m)
same_valid rule sheet record' limit a n b m after same whole =
    let g = (begun_by_number rule sheet record' limit a n (after_not_1 after)).0 after in
    let t = g.texts in
    let left = is rule sheet record' limit a n (after_not_1 after) ∙ ap (evaluate_checked_answer a limit) g.read_so in
    let right = whole ∙ ap (evaluate_answer b limit) (unsheeted_read rule sheet record' t g.read_so) in
    let x : ℕ → Answer = answer_of t.checked.rule.content t.«record» limit in
    let room = length a.work.output in
    let of : ℕ → Evaluated = λ k. answered b (unsheeted t) (x k).result (x k).steps_begun in
    subst (λ (e : Entry CheckedNumbers CheckedAreas). SameAnswer e (evaluate_entry rule record' limit b m)) (sym left)
    (subst (λ (e : Evaluated). SameAnswer (evaluate_checked_answer a limit (passed t)) e) (sym (right ∙ sym (ap of same)))
    (same_answered a b t (x room).result (x room).steps_begun same))

pub same_as_evaluate :
    (rule sheet record' : Bytes) (limit : ℕ) (a : CheckedAreas) (n : CheckedNumbers) (b : Areas) (m : Numbers)
    → AfterEvaluation (evaluate_checked_entry rule sheet record' limit a n).refusal
    → length a.work.output ≡ length b.work.output
    → ¬ ((evaluate_entry rule record' limit b m).refusal ≡ 1)
    → SameAnswer (evaluate_checked_entry rule sheet record' limit a n) (evaluate_entry rule record' limit b m)
same_as_evaluate rule sheet record' limit a n b m after same not-1 =
    same_valid rule sheet record' limit a n b m after same (behind (is_invalid limit b) m b (evaluate_answer b limit (evaluate_stage rule record')) not-1).is

-- A call without the sheet that answers the same: in the same areas.
pub record Without (rule sheet record' : Bytes) (limit : ℕ) (a : CheckedAreas) (n : CheckedNumbers) : Type 0 where
  pub areas : Areas
  pub numbers : Numbers
  pub valid : is_invalid limit areas ≡ false
  pub whole : evaluate_entry rule record' limit areas numbers ≡ evaluate_answer areas limit (evaluate_stage rule record')
  pub same : SameAnswer (evaluate_checked_entry rule sheet record' limit a n) (evaluate_entry rule record' limit areas numbers)

without : (limit : ℕ) (a : CheckedAreas) → is_checked_invalid limit a ≡ false → cannot_run limit a.work.cells || (is_short a.rule || is_short a.«record») ≡ false
without limit a v =
    let run = or_false_l (cannot_run limit a.work.cells) _ v in
    let texts = or_false_r (cannot_run limit a.work.cells) _ v in
    let rule_long = or_false_l (is_short a.rule) _ texts in
    let record-long = or_false_r (is_short a.sheet) _ (or_false_r (is_short a.rule) _ texts) in
    rw (run, rule_long, record-long)

pub without_sheet : (rule sheet record' : Bytes) (limit : ℕ) (a : CheckedAreas) (n : CheckedNumbers) → AfterEvaluation (evaluate_checked_entry rule sheet record' limit a n).refusal → Without rule sheet record' limit a n
without_sheet rule sheet record' limit a n after =
    let b : Areas = record { rule = a.rule; «record» = a.«record»; work = a.work } in
    let m : Numbers = record { which = 0; place = 0; steps = 0; size = 0 } in
    let v = without limit a (behind (is_checked_invalid limit a) n a (evaluate_checked_answer a limit (evaluate_checked_stage rule sheet record')) (after_not_1 after)).valid in
    let whole : evaluate_entry rule record' limit b m ≡ evaluate_answer b limit (evaluate_stage rule record') = rw (v, evaluate_entry) in
    record { areas = b; numbers = m; valid = v; whole = whole; same = same_valid rule sheet record' limit a n b m after refl whole }
