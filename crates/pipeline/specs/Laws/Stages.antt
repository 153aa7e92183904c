-- Stages: what a stage that is passed, or not, tells of the texts and of their areas.
use Rattle.std.specs.Prelude.{Option, None, Some, Result, Ok, Err, IsErrAnd}
use Rattle.std.specs.Prelude.{◌≡◌, refl, ℕ, length}
use Rattle.std.proofs.Common.{sym, ap, ◌∙◌, arith}
use Rattle.model.specs.Bytes.{Bytes}
use Rattle.model.specs.Judgement.{Judged, done, refuses, or_refuse, rule_in, sheet_in}
use Rattle.model.proofs.Laws.Logic.{clash}
use Rattle.model.specs.Limits.{max_nesting}
use Rattle.model.specs.Refusal.{number, read_number}
use Rattle.model.specs.declared.refusal.ReadFault.{ReadFault}
use Rattle.model.specs.declared.refusal.ReadFault.TheVariants.{NotJson, RepeatedName, LoneSurrogate, BadNumber, TooLarge}
use Rattle.model.specs.declared.refusal.Fault.TheVariants.{WrongKind, BadDate, OutOfRange}
use Rattle.model.specs.declared.refusal.EvalFault.TheVariants.{Operation, OutOfSteps}
use Rattle.model.specs.declared.refusal.Refusal.{Refusal}
use Rattle.model.specs.declared.refusal.Refusal.TheVariants.{InvalidArgument, Reading, NotRule, Evaluating, AnswerTooLarge, OutputTooShort, NotAccepted, NotSheet}
use Rattle.model.specs.Rule.{Rule}
use Rattle.model.specs.Shape.{shape}
use Rattle.model.specs.Sheet.{Sheet, sheet_of}
use Rattle.model.specs.TypeCheck.{check}
use Rattle.model.specs.Value.{Value}
use Rattle.syntax.specs.Entry.{read_into}
use Rattle.syntax.specs.Read as readings
use Rattle.syntax.specs.Read.{Read, read}
use Rattle.rule.specs.Holds.{Holds}
use Rattle.shape.specs.Laws.Holds.{holds_rule}
use Rattle.sheet.specs.Contract.{HoldsSheet}
use Rattle.table.specs.WasRead.{WasRead}
use Rattle.table.specs.Laws.Standing.{was_read_denotes}
use Rattle.pipeline.specs.Areas.{TextAreas, holding, read_areas_of, left_by}
use Rattle.pipeline.specs.declared.text.Stop.{Stop}
use Rattle.pipeline.specs.Contract.{stop, result_of, stop_of}
use Rattle.pipeline.specs.Stage.{Stage, passed, refused, ◌>>=◌, record_text, as_read, read_as, as_judged}
use Rattle.pipeline.specs.Texts.{TextRead, text_stage, rule_stage, sheet_stage, TextsChecked, check_stage, TextsFitted, fits_stage, TextsRead, evaluate_stage}

-- ---- refusals
-- No refusal has the number 0.
read_number_some : (k : ReadFault) → read_number k ≡ 0 → ⊥
read_number_some NotJson e = omega arith
read_number_some RepeatedName e = omega arith
read_number_some LoneSurrogate e = omega arith
read_number_some BadNumber e = omega arith
read_number_some TooLarge e = omega arith

pub number_some : (e : Refusal) → number e ≡ 0 → ⊥
number_some InvalidArgument f = omega arith
number_some (Reading k) f = read_number_some k f
number_some NotRule f = omega arith
number_some (Evaluating (Operation WrongKind)) f = omega arith
number_some (Evaluating (Operation BadDate)) f = omega arith
number_some (Evaluating (Operation OutOfRange)) f = omega arith
number_some (Evaluating OutOfSteps) f = omega arith
number_some AnswerTooLarge f = omega arith
number_some OutputTooShort f = omega arith
number_some NotAccepted f = omega arith
number_some NotSheet f = omega arith

-- ---- stages
-- An answer tells whether a stage is passed,
pub record Passed {A : Type 0} (x : Stage A) : Type 0 where
  pub result : A
  pub is : x ≡ passed result

-- or what it is refused with.
pub record Stopped {A : Type 0} (x : Stage A) (s : Stop) : Type 0 where
  pub refusal : Refusal
  pub which : ℕ
  pub place : ℕ
  pub is : x ≡ refused refusal which place
  pub tells : s ≡ stop refusal which place

pub ok_passed : {A B : Type 0} (f : A → B) (x : Stage A) {b : B} → result_of f x ≡ Ok b → Passed x
ok_passed f (passed a) e = record { result = a; is = refl }
ok_passed f (refused r w p) e = clash cc

pub err_stopped : {A B : Type 0} (f : A → B) (x : Stage A) {s : Stop} → result_of f x ≡ Err s → Stopped x s
err_stopped f (passed a) e = clash cc
err_stopped f (refused r w p) {s} e = record { refusal = r; which = w; place = p; is = refl; tells = (let z : stop r w p ≡ s = cc in sym z) }

-- What `?` gives on.
pub given_on : {A B : Type 0} (r : Result A B) {s : B} → IsErrAnd r (λ z. z ≡ s) → r ≡ Err s
given_on (Ok a) e = absurd e
given_on (Err z) e = ap Err e

-- What is refused is refused whatever is asked of the result.
pub same_stop : {A B : Type 0} (f : A → B) (x : Stage A) {s : Stop} → Err s ≡ stop_of x → Err s ≡ result_of f x
same_stop f (passed a) e = clash cc
same_stop f (refused r w p) {s} e = let z : s ≡ stop r w p = cc in ap Err z

-- ---- texts
pub record TextHeld {X : Type 0} (judge : Value → Judged X) (s : Bytes) (x : TextRead X) : Type 0 where
  pub reads : read s ≡ readings.done x.value
  pub judged : judge x.value ≡ done x.content

abbrev of_value : {X : Type 0} → Value → Judged X → Stage (TextRead X)
of_value v j = as_judged j >>= λ y. passed (record { value = v; content = y })

pub text_held : {X : Type 0} (which : ℕ) (judge : Value → Judged X) (s : Bytes) (x : TextRead X) → text_stage which judge s ≡ passed x → TextHeld judge s x
text_held {X} which judge s x e = of_read (read s) refl e
  where
    of_judged : (v : Value) → read s ≡ readings.done v → (j : Judged X) → judge v ≡ j → of_value v j ≡ passed x → TextHeld judge s x
    of_judged v f (refuses r) g h = clash cc
    of_judged v f (done y) g h =
        let z : record { value = v; content = y } ≡ x = cc in
        record { reads = f ∙ ap (λ (w : TextRead X). readings.done w.value) z; judged = ap (λ (w : TextRead X). judge w.value) (sym z) ∙ g ∙ ap (λ (w : TextRead X). done w.content) z }

    of_read : (g : Read) → read s ≡ g → (as_read which g >>= λ v. of_value v (judge v)) ≡ passed x → TextHeld judge s x
    of_read (readings.done v) f h = of_judged v f (judge v) refl h
    of_read (readings.refuse k p) f h = clash cc

-- 6 and 14 are none of the model's `shape` and `sheetOf`.
pub not_refused : {X : Type 0} (e : Refusal) (o : Option X) (x : X) → or_refuse e o ≡ done x → o ≡ Some x
not_refused e None x f = clash cc
not_refused e (Some y) x f = cc

pub read_held : (which : ℕ) (s : Bytes) (v : Value) → read_as which s ≡ passed v → read s ≡ readings.done v
read_held which s v e = of_read (read s) refl e
  where
    of_read : (g : Read) → read s ≡ g → as_read which g ≡ passed v → read s ≡ readings.done v
    of_read (readings.done w) f h = f ∙ cc
    of_read (readings.refuse k p) f h = clash cc

pub record_held : (s : Bytes) (v : Value) → read_as record_text s ≡ passed v → read s ≡ readings.done v
record_held s v e = read_held record_text s v e

-- ---- areas
pub left_holding : (s : Bytes) (v : Value) (a : TextAreas) → read s ≡ readings.done v → left_by s a ≡ holding v a
left_holding s v a e = ap (λ (g : Read). read_areas_of (read_into g (length a.table) (length a.strings))) e

-- Areas that hold the value of a rule or a sheet hold that rule or sheet.
pub held_rule : {s : Bytes} {x : TextRead Rule} {T A : Bytes} → TextHeld rule_in s x → WasRead T A x.value → Holds T A max_nesting 0 x.content
held_rule {x = x} h w = holds_rule w (not_refused NotRule (shape x.value) x.content h.judged)

pub held_sheet : {s : Bytes} {x : TextRead Sheet} {S Z : Bytes} → TextHeld sheet_in s x → WasRead S Z x.value → HoldsSheet S Z x.content
held_sheet {x = x} h w = record { value = x.value; denotes = was_read_denotes w; is_sheet_lem = not_refused NotSheet (sheet_of x.value) x.content h.judged }

-- ---- several texts
pub record Bound {A B : Type 0} (x : Stage A) (f : A → Stage B) (b : B) : Type 0 where
  pub first : A
  pub is : x ≡ passed first
  pub rest : f first ≡ passed b

pub bound : {A B : Type 0} (x : Stage A) (f : A → Stage B) (b : B) → (x >>= f) ≡ passed b → Bound x f b
bound (passed a) f b e = record { first = a; is = refl; rest = e }
bound (refused r w p) f b e = clash cc

passed_same : {A : Type 0} {a b : A} → passed a ≡ passed b → a ≡ b
passed_same e = cc

pub record CheckHeld (rule sheet : Bytes) (t : TextsChecked) : Type 0 where
  pub rule_passes : rule_stage rule ≡ passed t.rule
  pub sheet_passes : sheet_stage sheet ≡ passed t.sheet
  pub checks : check t.rule.content t.sheet.content ≡ Some t.types

pub check_held : (rule sheet : Bytes) (t : TextsChecked) → check_stage rule sheet ≡ passed t → CheckHeld rule sheet t
check_held rule sheet t e =
    let r = bound (rule_stage rule) _ t e in
    let s = bound (sheet_stage sheet) _ t r.rest in
    let c = bound (as_judged (or_refuse NotAccepted (check r.first.content s.first.content))) _ t s.rest in
    let same : record { rule = r.first; sheet = s.first; types = c.first } ≡ t = passed_same c.rest in
    record {
      rule_passes = r.is ∙ ap (λ (x : TextsChecked). passed x.rule) same;
      sheet_passes = s.is ∙ ap (λ (x : TextsChecked). passed x.sheet) same;
      checks = ap (λ (x : TextsChecked). check x.rule.content x.sheet.content) (sym same) ∙ not_refused NotAccepted _ c.first (judged_passed _ c.first c.is) ∙ ap (λ (x : TextsChecked). Some x.types) same;
    }
  where
    judged_passed : {X : Type 0} (j : Judged X) (x : X) → as_judged j ≡ passed x → j ≡ done x
    judged_passed (done y) x f = ap done (passed_same f)
    judged_passed (refuses k) x f = clash cc

pub record FitsHeld (sheet record' : Bytes) (t : TextsFitted) : Type 0 where
  pub sheet_passes : sheet_stage sheet ≡ passed t.sheet
  pub record_passes : read_as record_text record' ≡ passed t.«record»

pub fits_held : (sheet record' : Bytes) (t : TextsFitted) → fits_stage sheet record' ≡ passed t → FitsHeld sheet record' t
fits_held sheet record' t e =
    let s = bound (sheet_stage sheet) _ t e in
    let v = bound (read_as record_text record') _ t s.rest in
    let same : record { sheet = s.first; «record» = v.first } ≡ t = passed_same v.rest in
    record { sheet_passes = s.is ∙ ap (λ (x : TextsFitted). passed x.sheet) same; record_passes = v.is ∙ ap (λ (x : TextsFitted). passed x.«record») same }

pub record EvaluateHeld (rule record' : Bytes) (t : TextsRead) : Type 0 where
  pub rule_passes : rule_stage rule ≡ passed t.rule
  pub record_passes : read_as record_text record' ≡ passed t.«record»

pub evaluate_held : (rule record' : Bytes) (t : TextsRead) → evaluate_stage rule record' ≡ passed t → EvaluateHeld rule record' t
evaluate_held rule record' t e =
    let r = bound (rule_stage rule) _ t e in
    let v = bound (read_as record_text record') _ t r.rest in
    let same : record { rule = r.first; «record» = v.first } ≡ t = passed_same v.rest in
    record { rule_passes = r.is ∙ ap (λ (x : TextsRead). passed x.rule) same; record_passes = v.is ∙ ap (λ (x : TextsRead). passed x.«record») same }
