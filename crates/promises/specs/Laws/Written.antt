-- Written: what an entry writes is the text of the value that evaluation gave, and reads back.
use Rattle.std.specs.Prelude.{[], ◌∷◌, ◌≡◌, refl, ℕ, ◌≤◌, length, take}
use Rattle.std.proofs.Common.{inl, sym, ap, subst, ◌∙◌, arith}
use Rattle.std.proofs.Math.Seq.{take-append_seam}
use Rattle.model.specs.Bytes.{Bytes}
use Rattle.model.specs.Eval.{run}
use Rattle.model.specs.Judgement.{Judged, done, refuses, rule_in, answer_of}
use Rattle.model.proofs.Laws.Logic.{clash}
use Rattle.model.specs.Limits.{max_text_bytes}
use Rattle.model.specs.declared.refusal.ReadFault.TheVariants.{NotJson}
use Rattle.model.specs.declared.refusal.Refusal.TheVariants.{NotRule}
use Rattle.model.specs.Run.{steps}
use Rattle.model.specs.Shape.{shape}
use Rattle.model.specs.Value.{Value}
use Rattle.syntax.proofs.Demand2.{answer_reads_back}
use Rattle.syntax.specs.Layout.{padded}
use Rattle.syntax.specs.Read as readings
use Rattle.syntax.specs.Read.{then, ◌>>=◌, give, fail, if, peek, eat, white, value, on_start, text, answer, read}
use Rattle.syntax.specs.Tokens.{is_white, start_of}
use Rattle.pipeline.specs.Laws.Stages.{text_held, record_held, not_refused, number_some, evaluate_held}
use Rattle.pipeline.specs.Stage.{Stage, passed, refused, rule_text}
use Rattle.pipeline.specs.Texts.{TextsRead, evaluate_stage}
use Rattle.jehvrukam.specs.Evaluate.{Areas, Numbers, Evaluated, is_invalid, answered, evaluate_answer, evaluate_entry}
use Rattle.jehvrukam.specs.EvaluateChecked.{CheckedAreas, CheckedNumbers, evaluate_checked_entry}
use Rattle.promises.specs.Calls.{written_by, written_by_checked, Answers}
use Rattle.promises.specs.Laws.Checked.{without_sheet}
use Rattle.promises.specs.Laws.Entries.{behind, zero_not_1}

-- No text without a byte reads.
nothing_read : read [] ≡ readings.refuse NotJson 0
unfolding read answer text white then ◌>>=◌ give fail if peek eat value on_start start_of is_white max_text_bytes
nothing_read = refl

some_byte : (t : Bytes) {v : Value} → read t ≡ readings.done v → 1 ≤ length t
some_byte [] e = clash (let f = sym nothing_read ∙ e in cc)
some_byte (b ∷ t) e = omega arith

first_bytes : (n : ℕ) (text : Bytes) → take (length text) (padded n text) ≡ text
unfolding padded
first_bytes n text = take-append_seam text _

module _ (rule record' : Bytes) (limit : ℕ) (a : Areas) where
  -- Once the texts are read.
  of_text : (t : TextsRead) → evaluate_stage rule record' ≡ passed t → (text : Bytes) → (answer_of t.rule.content t.«record» limit (length a.work.output)).result ≡ done text
      → Answers rule record' limit (steps (run t.rule.content t.«record» limit)) (length text) text
  of_text t e text w =
      let h = evaluate_held rule record' t e in
      let r = text_held rule_text rule_in rule t.rule h.rule_passes in
      let b = answer_reads_back rule record' t.rule.value t.«record» t.rule.content limit (length a.work.output) text r.reads (not_refused NotRule (shape t.rule.value) t.rule.content r.judged) (record_held record' t.«record» h.record_passes) w in
      record { answer = b.answer; runs = record { texts = t; read_so = e; outcome_is = b.ends; steps_are = refl }; is_text_lem = b.is_text_lem; length_is = refl; not_empty = some_byte text b.reads; reads = b.reads; reads_back = b.reads_back }

  of_stage_lem : (x : Stage TextsRead) → evaluate_stage rule record' ≡ x → (evaluate_answer a limit x).refusal ≡ 0 → Answers rule record' limit (evaluate_answer a limit x).numbers.steps (evaluate_answer a limit x).numbers.size (written_by (evaluate_answer a limit x))
  of_stage_lem (refused k w p) e z = absurd (number_some k z)
  of_stage_lem (passed t) e z = go (answer_of t.rule.content t.«record» limit (length a.work.output)).result refl z
    where
      begun : ℕ
      begun = steps (run t.rule.content t.«record» limit)

      go : (j : Judged Bytes) → (answer_of t.rule.content t.«record» limit (length a.work.output)).result ≡ j → (answered a t j begun).refusal ≡ 0 → Answers rule record' limit (answered a t j begun).numbers.steps (answered a t j begun).numbers.size (written_by (answered a t j begun))
      go (done text) w z = rw (first_bytes (length a.work.output) text) (of_text t e text w)
      go (refuses k) w z = absurd (number_some k z)

pub evaluate_reads_back :
    (rule record' : Bytes) (limit : ℕ) (a : Areas) (n : Numbers)
    → (evaluate_entry rule record' limit a n).refusal ≡ 0
    → Answers rule record' limit (evaluate_entry rule record' limit a n).numbers.steps (evaluate_entry rule record' limit a n).numbers.size (written_by (evaluate_entry rule record' limit a n))
evaluate_reads_back rule record' limit a n z =
    let x = evaluate_answer a limit (evaluate_stage rule record') in
    let b = behind (is_invalid limit a) n a x (zero_not_1 z) in
    subst (λ (e : Evaluated). Answers rule record' limit e.numbers.steps e.numbers.size (written_by e)) (sym b.is) (of_stage_lem rule record' limit a (evaluate_stage rule record') refl (sym (ap (λ (e : Evaluated). e.refusal) b.is) ∙ z))

-- With a sheet the answer is that without it.
pub checked_reads_back :
    (rule sheet record' : Bytes) (limit : ℕ) (a : CheckedAreas) (n : CheckedNumbers)
    → (evaluate_checked_entry rule sheet record' limit a n).refusal ≡ 0
    → Answers rule record' limit (evaluate_checked_entry rule sheet record' limit a n).numbers.steps (evaluate_checked_entry rule sheet record' limit a n).numbers.size (written_by_checked (evaluate_checked_entry rule sheet record' limit a n))
checked_reads_back rule sheet record' limit a n z =
    let e = evaluate_checked_entry rule sheet record' limit a n in
    let w = without_sheet rule sheet record' limit a n (inl z) in
    let f = evaluate_entry rule record' limit w.areas w.numbers in
    let x = evaluate_reads_back rule record' limit w.areas w.numbers (sym w.same.refusal ∙ z) in
    let same = w.same in
    let sized : Answers rule record' limit f.numbers.steps e.numbers.size (take e.numbers.size f.areas.work.output) = subst (λ (k : ℕ). Answers rule record' limit f.numbers.steps k (take k f.areas.work.output)) (sym same.size) x in
    let lying : Answers rule record' limit f.numbers.steps e.numbers.size (written_by_checked e) = subst (λ (o : Bytes). Answers rule record' limit f.numbers.steps e.numbers.size (take e.numbers.size o)) (sym same.output) sized in
    subst (λ (k : ℕ). Answers rule record' limit k e.numbers.size (written_by_checked e)) (sym same.steps) lying
