-- Viewed: what the entries leave in the areas of a text that they read is shown by the viewer.
use Rattle.std.specs.Prelude.{Bool, true, false, ◌≡◌, refl, ℕ, ltb, length}
use Rattle.std.proofs.Common.{sym, ap, subst, ◌∙◌, ltb-false}
use Rattle.model.specs.Bytes.{Bytes}
use Rattle.model.specs.Judgement.{Judged, done, refuses, rule_in, sheet_in, answer_of}
use Rattle.model.proofs.Laws.Logic.{or_false_l, or_false_r}
use Rattle.model.specs.Refusal.{number}
use Rattle.model.specs.declared.refusal.Refusal.TheVariants.{InvalidArgument, Reading}
use Rattle.model.specs.Rule.{Rule}
use Rattle.model.specs.Sheet.{Sheet}
use Rattle.model.specs.Value.{Value}
use Rattle.syntax.specs.Entry.{too_short, ReadAnswer, read_into, read_entry}
use Rattle.syntax.specs.Layout.{table_bytes}
use Rattle.syntax.specs.Read as readings
use Rattle.syntax.specs.Read.{Read, read}
use Rattle.viewer.specs.Main as Viewers
use Rattle.pipeline.specs.Areas.{TextAreas, text_areas, is_short, holding}
use Rattle.pipeline.specs.Laws.Stages.{number_some, text_held, record_held, check_held, fits_held, evaluate_held}
use Rattle.pipeline.specs.Stage.{Stage, passed, refused, rule_text, sheet_text, record_text, read_as}
use Rattle.pipeline.specs.Texts.{TextRead, rule_stage, sheet_stage, TextsChecked, check_stage, TextsFitted, fits_stage, TextsRead, evaluate_stage, CheckedTextsRead, evaluate_checked_stage}
use Rattle.jehvrukam.specs.Check.{CheckAreas, CheckNumbers, is_check_invalid, check_answer, check_entry}
use Rattle.jehvrukam.specs.Entry.{Entry, cannot_run}
use Rattle.jehvrukam.specs.Evaluate.{Areas, Numbers, Evaluated, is_invalid, answered, evaluate_answer, evaluate_entry}
use Rattle.jehvrukam.specs.EvaluateChecked.{CheckedAreas, CheckedNumbers, is_checked_invalid, checked_answered, evaluate_checked_answer, evaluate_checked_entry}
use Rattle.jehvrukam.specs.Fits.{FitsAreas, FitsNumbers, is_fits_invalid, fits_answer, fits_entry}
use Rattle.promises.specs.Viewed.{ReadShown, TextShown}
use Rattle.promises.specs.Laws.Entries.{behind, zero_not_1, checked_held}

-- ---- one text
-- Areas that hold a value's read form.
held_shown : (text : Bytes) (v : Value) (a : TextAreas) → read text ≡ readings.done v → is_short a ≡ false → TextShown text (holding v a)
held_shown text v a reads long = record {
  value = v;
  reads = reads;
  shown = Viewers.read_shown text v (holding v a).table (holding v a).strings (length a.table) (length a.strings) reads (ltb-false (length a.table) table_bytes (or_false_l (ltb (length a.table) table_bytes) _ long)) refl refl;
}

rule_shown : (text : Bytes) (x : TextRead Rule) (a : TextAreas) → rule_stage text ≡ passed x → is_short a ≡ false → TextShown text (holding x.value a)
rule_shown text x a e = held_shown text x.value a (text_held rule_text rule_in text x e).reads

sheet_shown : (text : Bytes) (x : TextRead Sheet) (a : TextAreas) → sheet_stage text ≡ passed x → is_short a ≡ false → TextShown text (holding x.value a)
sheet_shown text x a e = held_shown text x.value a (text_held sheet_text sheet_in text x e).reads

record_shown : (text : Bytes) (v : Value) (a : TextAreas) → read_as record_text text ≡ passed v → is_short a ≡ false → TextShown text (holding v a)
record_shown text v a e = held_shown text v a (record_held text v e)

-- ---- `jehvrukam_read`
pub read_shown : (text T A : Bytes) (place : ℕ) → (read_entry text T A place).refusal ≡ 0 → ReadShown text (read_entry text T A place).table (read_entry text T A place).strings
read_shown text T A place z = by_size (too_short T A) refl z
  where
    unread : ReadAnswer
    unread = record { refusal = number InvalidArgument; place = place; table = T; strings = A }

    entry : Bool → ReadAnswer
    entry b = elim b [ true ↦ unread | false ↦ read_into (read text) (length T) (length A) ]

    of_read : (r : Read) → read text ≡ r → too_short T A ≡ false → (read_into r (length T) (length A)).refusal ≡ 0 → ReadShown text (read_into r (length T) (length A)).table (read_into r (length T) (length A)).strings
    of_read (readings.done v) e long z = held_shown text v (text_areas T A) e long
    of_read (readings.refuse k p) e long z = absurd (number_some (Reading k) z)

    by_size : (b : Bool) → too_short T A ≡ b → (entry b).refusal ≡ 0 → ReadShown text (entry b).table (entry b).strings
    by_size true e z = absurd (number_some InvalidArgument z)
    by_size false e z = of_read (read text) refl e z

-- ---- `jehvrukam_check`
pub check_shown :
    (rule sheet : Bytes) (a : CheckAreas) (n : CheckNumbers)
    → (check_entry rule sheet a n).refusal ≡ 0
    → TextShown rule (check_entry rule sheet a n).areas.rule × TextShown sheet (check_entry rule sheet a n).areas.sheet
check_shown rule sheet a n z =
    let b = behind (is_check_invalid a) n a (check_answer a (check_stage rule sheet)) (zero_not_1 z) in
    subst Shown (sym b.is) (of_stage b.valid (check_stage rule sheet) refl (sym (ap (λ (e : Entry CheckNumbers CheckAreas). e.refusal) b.is) ∙ z))
  where
    Shown : Entry CheckNumbers CheckAreas → Type 0
    Shown e = TextShown rule e.areas.rule × TextShown sheet e.areas.sheet

    of_stage : is_check_invalid a ≡ false → (x : Stage TextsChecked) → check_stage rule sheet ≡ x → (check_answer a x).refusal ≡ 0 → TextShown rule (check_answer a x).areas.rule × TextShown sheet (check_answer a x).areas.sheet
    of_stage v (refused k w p) e z = absurd (number_some k z)
    of_stage v (passed t) e z =
        let h = check_held rule sheet t e in
        (rule_shown rule t.rule a.rule h.rule_passes (or_false_l (is_short a.rule) _ v), sheet_shown sheet t.sheet a.sheet h.sheet_passes (or_false_r (is_short a.rule) _ v))

-- ---- `jehvrukam_fits`
pub fits_shown :
    (sheet record' : Bytes) (a : FitsAreas) (n : FitsNumbers)
    → (fits_entry sheet record' a n).refusal ≡ 0
    → TextShown sheet (fits_entry sheet record' a n).areas.sheet × TextShown record' (fits_entry sheet record' a n).areas.«record»
fits_shown sheet record' a n z =
    let b = behind (is_fits_invalid a) n a (fits_answer a (fits_stage sheet record')) (zero_not_1 z) in
    subst Shown (sym b.is) (of_stage b.valid (fits_stage sheet record') refl (sym (ap (λ (e : Entry FitsNumbers FitsAreas). e.refusal) b.is) ∙ z))
  where
    Shown : Entry FitsNumbers FitsAreas → Type 0
    Shown e = TextShown sheet e.areas.sheet × TextShown record' e.areas.«record»

    of_stage : is_fits_invalid a ≡ false → (x : Stage TextsFitted) → fits_stage sheet record' ≡ x → (fits_answer a x).refusal ≡ 0 → TextShown sheet (fits_answer a x).areas.sheet × TextShown record' (fits_answer a x).areas.«record»
    of_stage v (refused k w p) e z = absurd (number_some k z)
    of_stage v (passed t) e z =
        let h = fits_held sheet record' t e in
        (sheet_shown sheet t.sheet a.sheet h.sheet_passes (or_false_l (is_short a.sheet) _ v), record_shown record' t.«record» a.«record» h.record_passes (or_false_r (is_short a.sheet) _ v))

-- ---- `jehvrukam_evaluate`
pub evaluate_shown :
    (rule record' : Bytes) (limit : ℕ) (a : Areas) (n : Numbers)
    → (evaluate_entry rule record' limit a n).refusal ≡ 0
    → TextShown rule (evaluate_entry rule record' limit a n).areas.rule × TextShown record' (evaluate_entry rule record' limit a n).areas.«record»
evaluate_shown rule record' limit a n z =
    let b = behind (is_invalid limit a) n a (evaluate_answer a limit (evaluate_stage rule record')) (zero_not_1 z) in
    subst Shown (sym b.is) (of_stage b.valid (evaluate_stage rule record') refl (sym (ap (λ (e : Evaluated). e.refusal) b.is) ∙ z))
  where
    Shown : Evaluated → Type 0
    Shown e = TextShown rule e.areas.rule × TextShown record' e.areas.«record»

    of_answer : is_invalid limit a ≡ false → (t : TextsRead) → evaluate_stage rule record' ≡ passed t → (j : Judged Bytes) (k : ℕ) → (answered a t j k).refusal ≡ 0 → TextShown rule (answered a t j k).areas.rule × TextShown record' (answered a t j k).areas.«record»
    of_answer v t e (refuses x) k z = absurd (number_some x z)
    of_answer v t e (done x) k z =
        let h = evaluate_held rule record' t e in
        let texts = or_false_r (cannot_run limit a.work.cells) _ v in
        (rule_shown rule t.rule a.rule h.rule_passes (or_false_l (is_short a.rule) _ texts), record_shown record' t.«record» a.«record» h.record_passes (or_false_r (is_short a.rule) _ texts))

    of_stage : is_invalid limit a ≡ false → (x : Stage TextsRead) → evaluate_stage rule record' ≡ x → (evaluate_answer a limit x).refusal ≡ 0 → TextShown rule (evaluate_answer a limit x).areas.rule × TextShown record' (evaluate_answer a limit x).areas.«record»
    of_stage v (refused k w p) e z = absurd (number_some k z)
    of_stage v (passed t) e z = let x = answer_of t.rule.content t.«record» limit (length a.work.output) in of_answer v t e x.result x.steps_begun z

-- ---- `jehvrukam_evaluate_checked`
pub evaluate_checked_shown :
    (rule sheet record' : Bytes) (limit : ℕ) (a : CheckedAreas) (n : CheckedNumbers)
    → (evaluate_checked_entry rule sheet record' limit a n).refusal ≡ 0
    → TextShown rule (evaluate_checked_entry rule sheet record' limit a n).areas.rule
    × TextShown sheet (evaluate_checked_entry rule sheet record' limit a n).areas.sheet
    × TextShown record' (evaluate_checked_entry rule sheet record' limit a n).areas.«record»
evaluate_checked_shown rule sheet record' limit a n z =
    let b = behind (is_checked_invalid limit a) n a (evaluate_checked_answer a limit (evaluate_checked_stage rule sheet record')) (zero_not_1 z) in
    subst Shown (sym b.is) (of_stage b.valid (evaluate_checked_stage rule sheet record') refl (sym (ap (λ (e : Entry CheckedNumbers CheckedAreas). e.refusal) b.is) ∙ z))
  where
    Shown : Entry CheckedNumbers CheckedAreas → Type 0
    Shown e = TextShown rule e.areas.rule × TextShown sheet e.areas.sheet × TextShown record' e.areas.«record»

    of_answer : is_checked_invalid limit a ≡ false → (t : CheckedTextsRead) → evaluate_checked_stage rule sheet record' ≡ passed t → (j : Judged Bytes) (k : ℕ) → (checked_answered a t j k).refusal ≡ 0
        → TextShown rule (checked_answered a t j k).areas.rule × TextShown sheet (checked_answered a t j k).areas.sheet × TextShown record' (checked_answered a t j k).areas.«record»
    of_answer v t e (refuses x) k z = absurd (number_some x z)
    of_answer v t e (done x) k z =
        let h = checked_held rule sheet record' t e in
        let c = check_held rule sheet t.checked h.check_passes in
        let texts = or_false_r (cannot_run limit a.work.cells) _ v in
        let others = or_false_r (is_short a.rule) _ texts in
        (rule_shown rule t.checked.rule a.rule c.rule_passes (or_false_l (is_short a.rule) _ texts), sheet_shown sheet t.checked.sheet a.sheet c.sheet_passes (or_false_l (is_short a.sheet) _ others), record_shown record' t.«record» a.«record» h.record_passes (or_false_r (is_short a.sheet) _ others))

    of_stage : is_checked_invalid limit a ≡ false → (x : Stage CheckedTextsRead) → evaluate_checked_stage rule sheet record' ≡ x → (evaluate_checked_answer a limit x).refusal ≡ 0
        → TextShown rule (evaluate_checked_answer a limit x).areas.rule × TextShown sheet (evaluate_checked_answer a limit x).areas.sheet × TextShown record' (evaluate_checked_answer a limit x).areas.«record»
    of_stage v (refused k w p) e z = absurd (number_some k z)
    of_stage v (passed t) e z = let x = answer_of t.checked.rule.content t.«record» limit (length a.work.output) in of_answer v t e x.result x.steps_begun z
