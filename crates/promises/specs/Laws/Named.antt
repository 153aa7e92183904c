-- Named: demand 3a at the entries: an accepted rule on a record that fits ends in a value of a type whose bit is set, or in 9 or 10.
use Rattle.std.specs.Prelude.{Bool, true, false, ◌||◌, cond, [], ◌∷◌, ◌≡◌, refl, ℕ, ◌≤◌, T, length}
use Rattle.std.proofs.Common.{inl, inr, sym, ap, subst, ◌∙◌, arith}
use Rattle.model.specs.Bytes.{Bytes}
use Rattle.model.specs.Eval.{run, Outcome, value, refusal, outcome}
use Rattle.model.specs.Judgement.{Judged, done, refuses, judged_number, rule_in, sheet_in, written_within, written, answer_of}
use Rattle.model.proofs.Laws.Logic.{or_e, T→true}
use Rattle.model.proofs.Laws.Types.{same_ty_refl}
use Rattle.model.specs.Limits.{max_steps}
use Rattle.model.proofs.Main.{EndsWell}
use Rattle.model.specs.declared.refusal.Refusal.TheVariants.{NotRule, NotSheet}
use Rattle.model.specs.Run.{steps}
use Rattle.model.specs.Shape.{shape}
use Rattle.model.specs.Sheet.{sheet_of, fits}
use Rattle.model.specs.Types.{Types, belongs, has_type, is_in, same_ty, type_bits}
use Rattle.model.specs.Value.{Value}
use Rattle.model.specs.declared.Ty.{Ty}
use Rattle.syntax.proofs.Demand3.{demand_3a_bytes}
use Rattle.pipeline.specs.Areas.{is_short}
use Rattle.pipeline.specs.Laws.Stages.{text_held, record_held, not_refused, number_some, check_held, fits_held}
use Rattle.pipeline.specs.Stage.{Stage, passed, refused, rule_text, sheet_text, record_text, read_as}
use Rattle.pipeline.specs.Texts.{TextsChecked, check_stage, TextsFitted, fits_stage, TextsRead, evaluate_stage, CheckedTextsRead, evaluate_checked_stage}
use Rattle.jehvrukam.specs.Check.{CheckNumbers, CheckAreas, is_check_invalid, check_answer, check_entry}
use Rattle.jehvrukam.specs.Entry.{Entry}
use Rattle.jehvrukam.specs.Evaluate.{Areas, Numbers, Evaluated, is_invalid, answered, evaluate_answer, evaluate_entry}
use Rattle.jehvrukam.specs.EvaluateChecked.{CheckedAreas, CheckedNumbers, is_checked_invalid, checked_answered, evaluate_checked_answer, evaluate_checked_entry}
use Rattle.jehvrukam.specs.Fits.{FitsNumbers, FitsAreas, yes_or_no, is_fits_invalid, fits_answer, fits_entry}
use Rattle.promises.specs.Calls.{Accepts, SaysFits, Runs, EndsNamed, RunsNamed, written_by, written_by_checked, Answers, AnswersNamed, EndsSo, in_value, in_range_lem, in_steps, in_size, in_output}
use Rattle.promises.specs.Words.{bit_of, BelongsTo}
use Rattle.promises.specs.Laws.Bits.{bit_tells}
use Rattle.promises.specs.Laws.Checked.{types_some, told_words, begun_by_number, without_sheet}
use Rattle.promises.specs.Laws.Entries.{Behind, behind, written_number, zero_not_1, limit_within, passed_same, both_read, checked_held, unsheeted_read}
use Rattle.promises.specs.Laws.Written.{evaluate_reads_back, checked_reads_back}

-- ---- types and bits
or_true : (a b : Bool) → b ≡ true → a || b ≡ true
or_true true b e = refl
or_true false b e = e

-- A value of one of the types belongs to one whose bit is set.
of_types : (words : ℕ) (v : Value) (ts : Types) → ((k : Ty) → is_in ts k ≡ true → bit_of words k ≡ 1) → T (has_type ts v) → BelongsTo words v
of_types words v [] f x = absurd x
of_types words v (u ∷ us) f x =
    or_e (belongs v u) (has_type us v)
    (λ y. record { type = u; named = f u (rw (T→true (same_ty u u) (same_ty_refl u))); belonging = y })
    (λ y. of_types words v us (λ k e. f k (or_true (same_ty k u) (is_in us k) e)) y)
    x

ends_named : (ts : Types) (o : Outcome) → EndsWell ts o → EndsNamed (type_bits ts) o
ends_named ts (value v) h = of_types (type_bits ts) v ts (λ k e. bit_tells ts k ∙ ap (λ (b : Bool). cond b 1 0) e) h
ends_named ts (refusal e) h = h

-- ---- the run
-- Whatever the check passes, on a record that fits.
run_named : (rule sheet record' : Bytes) (limit : ℕ) (c : TextsChecked) (v : Value) → check_stage rule sheet ≡ passed c → read_as record_text record' ≡ passed v → T (fits c.sheet.content v) → limit ≤ max_steps
    → EndsNamed (type_bits c.types) (outcome (run c.rule.content v limit))
run_named rule sheet record' limit c v passes reads fit within =
    let h = check_held rule sheet c passes in
    let r = text_held rule_text rule_in rule c.rule h.rule_passes in
    let s = text_held sheet_text sheet_in sheet c.sheet h.sheet_passes in
    ends_named c.types (outcome (run c.rule.content v limit))
    (demand_3a_bytes rule sheet record' c.rule.value c.sheet.value v c.rule.content c.sheet.content c.types limit
    r.reads
    (not_refused NotRule (shape c.rule.value) c.rule.content r.judged)
    s.reads
    (not_refused NotSheet (sheet_of c.sheet.value) c.sheet.content s.judged)
    h.checks
    (record_held record' v reads)
    fit
    within)

-- ---- what `check` and `fits` say
record Accepted (rule sheet : Bytes) (words : ℕ) : Type 0 where
  texts : TextsChecked
  passes : check_stage rule sheet ≡ passed texts
  words_are : type_bits texts.types ≡ words

accepted : {rule sheet : Bytes} {words : ℕ} → Accepts rule sheet words → Accepted rule sheet words
accepted {rule} {sheet} {words} h = of_stage (check_stage rule sheet) refl (sym (ap (λ (e : Entry CheckNumbers CheckAreas). e.refusal) is) ∙ h.accepts) (sym (ap (λ (e : Entry CheckNumbers CheckAreas). e.numbers.words) is) ∙ h.tells)
  where
    is : check_entry rule sheet h.areas h.numbers ≡ check_answer h.areas (check_stage rule sheet)
    is = (behind (is_check_invalid h.areas) h.numbers h.areas (check_answer h.areas (check_stage rule sheet)) (zero_not_1 h.accepts)).is

    of_stage : (x : Stage TextsChecked) → check_stage rule sheet ≡ x → (check_answer h.areas x).refusal ≡ 0 → (check_answer h.areas x).numbers.words ≡ words → Accepted rule sheet words
    of_stage (passed t) e z w = record { texts = t; passes = e; words_are = w }
    of_stage (refused k a b) e z w = absurd (number_some k z)

pub words_some : (rule sheet : Bytes) (words : ℕ) → Accepts rule sheet words → ¬ (words ≡ 0)
words_some rule sheet words accepts z =
    let a = accepted accepts in
    types_some rule sheet a.texts a.passes (a.words_are ∙ z)

yes : (b : Bool) → yes_or_no b ≡ 1 → T b
yes true e = tt
yes false e = absurd (omega arith)

record Fitting (sheet record' : Bytes) : Type 0 where
  texts : TextsFitted
  passes : fits_stage sheet record' ≡ passed texts
  fit : T (fits texts.sheet.content texts.«record»)

fitting : {sheet record' : Bytes} → SaysFits sheet record' → Fitting sheet record'
fitting {sheet} {record'} h = of_stage (fits_stage sheet record') refl (sym (ap (λ (e : Entry FitsNumbers FitsAreas). e.refusal) is) ∙ h.answers) (sym (ap (λ (e : Entry FitsNumbers FitsAreas). e.numbers.fit) is) ∙ h.says)
  where
    is : fits_entry sheet record' h.areas h.numbers ≡ fits_answer h.areas (fits_stage sheet record')
    is = (behind (is_fits_invalid h.areas) h.numbers h.areas (fits_answer h.areas (fits_stage sheet record')) (zero_not_1 h.answers)).is

    of_stage : (x : Stage TextsFitted) → fits_stage sheet record' ≡ x → (fits_answer h.areas x).refusal ≡ 0 → (fits_answer h.areas x).numbers.fit ≡ 1 → Fitting sheet record'
    of_stage (passed t) e z w = record { texts = t; passes = e; fit = yes (fits t.sheet.content t.«record») w }
    of_stage (refused k a b) e z w = absurd (number_some k z)

pub demand_3a : (rule sheet record' : Bytes) (words limit : ℕ) → Accepts rule sheet words → SaysFits sheet record' → limit ≤ max_steps → RunsNamed rule record' limit words
demand_3a rule sheet record' words limit accepts says within =
    let a = accepted accepts in
    let f = fitting says in
    let c = check_held rule sheet a.texts a.passes in
    let g = fits_held sheet record' f.texts f.passes in
    let same : f.texts.sheet ≡ a.texts.sheet = passed_same (sym g.sheet_passes ∙ c.sheet_passes) in
    let fit : T (fits a.texts.sheet.content f.texts.«record») = rw same at f.fit in
    let o = outcome (run a.texts.rule.content f.texts.«record» limit) in
    record {
      ends = o;
      begun = steps (run a.texts.rule.content f.texts.«record» limit);
      runs = record { texts = record { rule = a.texts.rule; «record» = f.texts.«record» }; read_so = both_read rule record' a.texts.rule f.texts.«record» c.rule_passes g.record_passes; outcome_is = refl; steps_are = refl };
      named = subst (λ k. EndsNamed k o) a.words_are (run_named rule sheet record' limit a.texts f.texts.«record» a.passes g.record_passes fit within);
    }

-- ---- how an entry then ends
ends_so : (words : ℕ) (a : Areas) (t : TextsRead) (k : ℕ) (o : Outcome) → EndsNamed words o → EndsSo (answered a t (written (length a.work.output) o) k).refusal
ends_so words a t k (refusal e) (inl h) = rw h in_range_lem
ends_so words a t k (refusal e) (inr h) = rw h in_steps
ends_so words a t k (value v) h = subst EndsSo (sym (told_number (written_within (length a.work.output) v))) (written_number EndsSo (length a.work.output) v in_value in_size in_output)
  where
    told_number : (j : Judged Bytes) → (answered a t j k).refusal ≡ judged_number j
    told_number (done x) = refl
    told_number (refuses x) = refl

-- Of a run that ends so, in any valid areas.
entry_ends_so : (rule record' : Bytes) (words limit : ℕ) (a : Areas) → RunsNamed rule record' limit words → EndsSo (evaluate_answer a limit (evaluate_stage rule record')).refusal
entry_ends_so rule record' words limit a h =
    let t = h.runs.texts in
    rw h.runs.read_so (ends_so words a t _ (outcome (run t.rule.content t.«record» limit)) (rw h.runs.outcome_is h.named))

pub never_7_or_8 :
    (rule sheet record' : Bytes) (words limit : ℕ) (a : Areas) (n : Numbers)
    → Accepts rule sheet words
    → SaysFits sheet record'
    → ¬ ((evaluate_entry rule record' limit a n).refusal ≡ 1)
    → EndsSo (evaluate_entry rule record' limit a n).refusal
never_7_or_8 rule sheet record' words limit a n accepts says not-1 =
    let b = behind (is_invalid limit a) n a (evaluate_answer a limit (evaluate_stage rule record')) not-1 in
    subst (λ (e : Evaluated). EndsSo e.refusal) (sym b.is) (entry_ends_so rule record' words limit a (demand_3a rule sheet record' words limit accepts says (limit_within limit a.work.cells _ b.valid)))

-- ---- what is then written
-- Two runs of the same texts are one.
one_run : {rule record' : Bytes} {limit m n : ℕ} {o p : Outcome} → Runs rule record' limit o m → Runs rule record' limit p n → o ≡ p
one_run {limit = limit} x y =
    let same = passed_same (sym x.read_so ∙ y.read_so) in
    sym x.outcome_is ∙ (ap (λ (t : TextsRead). outcome (run t.rule.content t.«record» limit)) same ∙ y.outcome_is)

answers_named : {rule record' : Bytes} {limit begun words size : ℕ} {text : Bytes} → Answers rule record' limit begun size text → RunsNamed rule record' limit words → AnswersNamed rule record' limit begun words size text
answers_named {words = words} x h = record { answers = x; named = subst (EndsNamed words) (one_run h.runs x.runs) h.named }

pub written_as_named :
    (rule sheet record' : Bytes) (words limit : ℕ) (a : Areas) (n : Numbers)
    → Accepts rule sheet words
    → SaysFits sheet record'
    → (evaluate_entry rule record' limit a n).refusal ≡ 0
    → AnswersNamed rule record' limit (evaluate_entry rule record' limit a n).numbers.steps words (evaluate_entry rule record' limit a n).numbers.size (written_by (evaluate_entry rule record' limit a n))
written_as_named rule sheet record' words limit a n accepts says z =
    let b = behind (is_invalid limit a) n a (evaluate_answer a limit (evaluate_stage rule record')) (zero_not_1 z) in
    answers_named (evaluate_reads_back rule record' limit a n z) (demand_3a rule sheet record' words limit accepts says (limit_within limit a.work.cells _ b.valid))

-- ---- with the sheet at hand
told_fit : (a : CheckedAreas) (t : CheckedTextsRead) (j : Judged Bytes) (k : ℕ) → (checked_answered a t j k).numbers.fit ≡ yes_or_no (fits t.checked.sheet.content t.«record»)
told_fit a t (done x) k = refl
told_fit a t (refuses x) k = refl

-- Where the record is told to fit, evaluation has begun, and the run ends so.
record Fits (rule sheet record' : Bytes) (limit words : ℕ) : Type 0 where
  texts : CheckedTextsRead
  read_so : evaluate_checked_stage rule sheet record' ≡ passed texts
  named : RunsNamed rule record' limit words

module _ (rule sheet record' : Bytes) (limit : ℕ) (a : CheckedAreas) (n : CheckedNumbers) (not-1 : ¬ ((evaluate_checked_entry rule sheet record' limit a n).refusal ≡ 1)) (fit : (evaluate_checked_entry rule sheet record' limit a n).numbers.fit ≡ 1) where
  told : Fits rule sheet record' limit (evaluate_checked_entry rule sheet record' limit a n).numbers.words
  told = of_stage (evaluate_checked_stage rule sheet record') refl (sym (ap (λ (e : Entry CheckedNumbers CheckedAreas). e.numbers.fit) b.is) ∙ fit) (sym (ap (λ (e : Entry CheckedNumbers CheckedAreas). e.numbers.words) b.is))
    where
      b : Behind (is_checked_invalid limit a) (evaluate_checked_answer a limit (evaluate_checked_stage rule sheet record')) (evaluate_checked_entry rule sheet record' limit a n)
      b = behind (is_checked_invalid limit a) n a (evaluate_checked_answer a limit (evaluate_checked_stage rule sheet record')) not-1

      of_stage : (x : Stage CheckedTextsRead) → evaluate_checked_stage rule sheet record' ≡ x → (evaluate_checked_answer a limit x).numbers.fit ≡ 1 → (evaluate_checked_answer a limit x).numbers.words ≡ (evaluate_checked_entry rule sheet record' limit a n).numbers.words
          → Fits rule sheet record' limit (evaluate_checked_entry rule sheet record' limit a n).numbers.words
      of_stage (refused e w p) f g h = absurd (omega arith)
      of_stage (passed t) f g h =
          let c = checked_held rule sheet record' t f in
          let x = answer_of t.checked.rule.content t.«record» limit (length a.work.output) in
          let o = outcome (run t.checked.rule.content t.«record» limit) in
          record {
            texts = t;
            read_so = f;
            named = record {
              ends = o;
              begun = steps (run t.checked.rule.content t.«record» limit);
              runs = record { texts = record { rule = t.checked.rule; «record» = t.«record» }; read_so = unsheeted_read rule sheet record' t f; outcome_is = refl; steps_are = refl };
              named = subst (λ k. EndsNamed k o) (sym (told_words a t x.result x.steps_begun) ∙ h) (run_named rule sheet record' limit t.checked t.«record» c.check_passes c.record_passes (yes (fits t.checked.sheet.content t.«record») (sym (told_fit a t x.result x.steps_begun) ∙ g)) (limit_within limit a.work.cells (is_short a.rule || (is_short a.sheet || is_short a.«record»)) b.valid));
            };
          }

  pub checked_never_7_or_8 : EndsSo (evaluate_checked_entry rule sheet record' limit a n).refusal
  checked_never_7_or_8 =
      let x = told in
      let w = without_sheet rule sheet record' limit a n ((begun_by_number rule sheet record' limit a n not-1).1 (record { texts = x.texts; read_so = x.read_so })) in
      subst EndsSo (sym (w.same.refusal ∙ ap (λ (e : Evaluated). e.refusal) w.whole)) (entry_ends_so rule record' _ limit w.areas x.named)

pub checked_written_as_named :
    (rule sheet record' : Bytes) (limit : ℕ) (a : CheckedAreas) (n : CheckedNumbers)
    → (evaluate_checked_entry rule sheet record' limit a n).refusal ≡ 0
    → (evaluate_checked_entry rule sheet record' limit a n).numbers.fit ≡ 1
    → AnswersNamed rule record' limit (evaluate_checked_entry rule sheet record' limit a n).numbers.steps (evaluate_checked_entry rule sheet record' limit a n).numbers.words (evaluate_checked_entry rule sheet record' limit a n).numbers.size (written_by_checked (evaluate_checked_entry rule sheet record' limit a n))
checked_written_as_named rule sheet record' limit a n z fit = answers_named (checked_reads_back rule sheet record' limit a n z) (told rule sheet record' limit a n (zero_not_1 z) fit).named
