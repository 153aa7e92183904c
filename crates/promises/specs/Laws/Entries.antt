-- Entries: what an answer of an entry tells of its stages.
use Rattle.std.specs.Prelude.{Bool, true, false, ◌||◌, cond, ◌≡◌, refl, ℕ, ◌≤◌, ltb, length}
use Rattle.std.proofs.Common.{ap, ◌∙◌, arith, ltb-false}
use Rattle.model.specs.Bytes.{Bytes}
use Rattle.model.specs.Judgement.{done, refuses, judged_number, written_within}
use Rattle.model.proofs.Laws.Logic.{or_false_l}
use Rattle.model.specs.Limits.{max_steps}
use Rattle.model.specs.declared.refusal.Refusal.TheVariants.{AnswerTooLarge, OutputTooShort}
use Rattle.model.specs.Rule.{Rule}
use Rattle.model.specs.Size.{is_too_large}
use Rattle.model.specs.Value.{Value}
use Rattle.model.specs.Writing.{value_text}
use Rattle.pipeline.specs.Laws.Stages.{bound, check_held}
use Rattle.pipeline.specs.Stage.{passed, record_text, read_as}
use Rattle.pipeline.specs.Texts.{TextRead, rule_stage, check_stage, TextsRead, evaluate_stage, CheckedTextsRead, evaluate_checked_stage}
use Rattle.jehvrukam.specs.Entry.{Entry, untouched, cannot_run}

-- ---- an answer but 1
-- What stands behind the test of sizes and limit.
pub record Behind {N A : Type 0} (invalid : Bool) (x e : Entry N A) : Type 0 where
  pub valid : invalid ≡ false
  pub is : e ≡ x

abbrev pub or_untouched : {N A : Type 0} → Bool → N → A → Entry N A → Entry N A
or_untouched invalid n a x = elim invalid [ true ↦ untouched n a | false ↦ x ]

pub behind : {N A : Type 0} (invalid : Bool) (n : N) (a : A) (x : Entry N A) → ¬ ((or_untouched invalid n a x).refusal ≡ 1) → Behind invalid x (or_untouched invalid n a x)
behind true n a x h = absurd (h refl)
behind false n a x h = record { valid = refl; is = refl }

pub zero_not_1 : {k : ℕ} → k ≡ 0 → ¬ (k ≡ 1)
zero_not_1 e f = omega arith

-- A valid limit is within the largest.
pub limit_within : (limit : ℕ) (cells : Bytes) (b : Bool) → cannot_run limit cells || b ≡ false → limit ≤ max_steps
limit_within limit cells b e = ltb-false max_steps limit (or_false_l (ltb max_steps limit) _ (or_false_l (cannot_run limit cells) b e))

-- ---- what is written
-- The number of a value that is written is 0, 11 or 12.
pub written_number : (P : ℕ → Type 0) (room : ℕ) (v : Value) → P 0 → P 11 → P 12 → P (judged_number (written_within room v))
written_number P room v done-so too_large too_short = large (is_too_large v)
  where
    short : (b : Bool) (x : Bytes) → P (judged_number (cond b (refuses OutputTooShort) (done x)))
    short true x = too_short
    short false x = done-so

    large : (b : Bool) → P (judged_number (cond b (refuses AnswerTooLarge) (cond (ltb room (length (value_text v))) (refuses OutputTooShort) (done (value_text v)))))
    large true = too_large
    large false = short (ltb room (length (value_text v))) (value_text v)

-- ---- several texts
pub passed_same : {A : Type 0} {a b : A} → passed a ≡ passed b → a ≡ b
passed_same e = cc

pub both_read : (s d : Bytes) (x : TextRead Rule) (v : Value) → rule_stage s ≡ passed x → read_as record_text d ≡ passed v → evaluate_stage s d ≡ passed (record { rule = x; «record» = v })
both_read s d x v e f = rw (e, f)

-- All three texts.
pub record CheckedHeld (rule sheet record' : Bytes) (t : CheckedTextsRead) : Type 0 where
  pub check_passes : check_stage rule sheet ≡ passed t.checked
  pub record_passes : read_as record_text record' ≡ passed t.«record»

pub checked_held : (rule sheet record' : Bytes) (t : CheckedTextsRead) → evaluate_checked_stage rule sheet record' ≡ passed t → CheckedHeld rule sheet record' t
checked_held rule sheet record' t e =
    let c = bound (check_stage rule sheet) _ t e in
    let v = bound (read_as record_text record') _ t c.rest in
    let same : record { checked = c.first; «record» = v.first } ≡ t = passed_same v.rest in
    record { check_passes = c.is ∙ ap (λ (x : CheckedTextsRead). passed x.checked) same; record_passes = v.is ∙ ap (λ (x : CheckedTextsRead). passed x.«record») same }

-- Without the sheet, the same rule on the same record.
abbrev pub unsheeted : CheckedTextsRead → TextsRead
unsheeted t = record { rule = t.checked.rule; «record» = t.«record» }

pub unsheeted_read : (rule sheet record' : Bytes) (t : CheckedTextsRead) → evaluate_checked_stage rule sheet record' ≡ passed t → evaluate_stage rule record' ≡ passed (unsheeted t)
unsheeted_read rule sheet record' t e =
    let h = checked_held rule sheet record' t e in
    both_read rule record' t.checked.rule t.«record» (check_held rule sheet t.checked h.check_passes).rule_passes h.record_passes
