-- Lengths: the entries' definitions see nothing of the areas but their lengths, and nothing of the numbers.
use Rattle.std.specs.Prelude.{Bool, true, false, ◌||◌, ◌≡◌, refl, ℕ, ltb, length, replicate}
use Rattle.std.specs.Prelude.{Option, None, Some}
use Rattle.std.proofs.Common.{◌∙◌}
use Rattle.model.specs.Bytes.{Bytes}
use Rattle.model.specs.Judgement.{Judged, done, refuses, Answer, answer_of}
use Rattle.model.proofs.Laws.Logic.{clash}
use Rattle.model.specs.Limits.{max_steps}
use Rattle.model.specs.Refusal.{number}
use Rattle.model.specs.Value.{Value}
use Rattle.syntax.specs.Entry.{ReadAnswer, read_into, read_entry, too_short}
use Rattle.syntax.specs.Layout.{table_bytes, strings_bytes, table_of, strings_area_of, padded}
use Rattle.syntax.specs.Read.{read}
use Rattle.pipeline.specs.Areas.{TextAreas, text_areas, is_short, zeroed, holding}
use Rattle.pipeline.specs.Stage.{Stage, passed, refused}
use Rattle.pipeline.specs.Texts.{TextsChecked, check_stage, TextsFitted, fits_stage, TextsRead, evaluate_stage, CheckedTextsRead, evaluate_checked_stage}
use Rattle.jehvrukam.specs.Check.{CheckAreas, CheckNumbers, is_check_invalid, check_answer, check_entry}
use Rattle.jehvrukam.specs.Entry.{Entry, WorkAreas, work_areas, cells_bytes, cannot_run, zeroed_work}
use Rattle.jehvrukam.specs.Evaluate.{Areas, Numbers, Evaluated, is_invalid, zeros, answered, evaluate_answer, evaluate_entry}
use Rattle.jehvrukam.specs.EvaluateChecked.{CheckedAreas, CheckedNumbers, is_checked_invalid, checked_zeros, checked_numbers, checked_answered, evaluate_checked_answer, evaluate_checked_entry}
use Rattle.jehvrukam.specs.Fits.{FitsAreas, FitsNumbers, is_fits_invalid, fits_answer, fits_entry}
use Rattle.jehvrukam.specs.View.{told_or}
use Rattle.promises.specs.Lengths.{SameText, SameWork, SameCheck, SameFits, SameEvaluate, SameChecked, SameEntry, SameReading, SameTold}
use Rattle.promises.specs.Laws.Entries.{or_untouched}

-- ---- the areas of a text
module _ {a b : TextAreas} (h : SameText a b) where
  short_same : is_short a ≡ is_short b
  short_same = λ i. ltb (h.table i) table_bytes || ltb (h.strings i) strings_bytes

  zeroed_same : zeroed a ≡ zeroed b
  zeroed_same = λ i. text_areas (replicate (h.table i) 0) (replicate (h.strings i) 0)

  holding_same : (v : Value) → holding v a ≡ holding v b
  holding_same v = λ i. text_areas (table_of v (h.table i)) (strings_area_of v (h.strings i))

-- ---- behind the test of sizes and limit, which comes out alike
alike : {N A : Type 0} (p q : Bool) (m n : N) (a b : A) (x y : Entry N A) → p ≡ q → x ≡ y → SameEntry (or_untouched p m a x) (or_untouched q n b y)
alike true true m n a b x y e f = record { refusal = refl; whole = λ k. absurd (k refl) }
alike false false m n a b x y e f = record { refusal = λ i. (f i).refusal; whole = λ k. f }
alike true false m n a b x y e f = clash cc
alike false true m n a b x y e f = clash cc

-- ---- `jehvrukam_read`
pub read_lengths : (text T T' A A' : Bytes) (place place' : ℕ) → length T ≡ length T' → length A ≡ length A' → SameReading (read_entry text T A place) (read_entry text T' A' place')
read_lengths text T T' A A' place place' t s = go (too_short T A) (too_short T' A') (λ i. ltb (t i) table_bytes || ltb (s i) strings_bytes)
  where
    unread : ℕ → Bytes → Bytes → ReadAnswer
    unread p B C = record { refusal = 1; place = p; table = B; strings = C }

    x : ReadAnswer
    x = read_into (read text) (length T) (length A)

    y : ReadAnswer
    y = read_into (read text) (length T') (length A')

    same : x ≡ y
    same = λ i. read_into (read text) (t i) (s i)

    go : (p q : Bool) → p ≡ q → SameReading (elim p [ true ↦ unread place T A | false ↦ x ]) (elim q [ true ↦ unread place' T' A' | false ↦ y ])
    go true true e = record { refusal = refl; whole = λ k. absurd (k refl) }
    go false false e = record { refusal = λ i. (same i).refusal; whole = λ k. same }
    go true false e = clash cc
    go false true e = clash cc

-- ---- `jehvrukam_check`
pub check_lengths : (rule sheet : Bytes) (a b : CheckAreas) (m n : CheckNumbers) → SameCheck a b → SameEntry (check_entry rule sheet a m) (check_entry rule sheet b n)
check_lengths rule sheet a b m n h = alike (is_check_invalid a) (is_check_invalid b) m n a b _ _ (λ i. short_same h.rule i || short_same h.sheet i) (of_stage (check_stage rule sheet))
  where
    of_stage : (x : Stage TextsChecked) → check_answer a x ≡ check_answer b x
    of_stage (passed c) = λ i. record { refusal = 0; numbers = (check_answer a (passed c)).numbers; areas = record { rule = holding_same h.rule c.rule.value i; sheet = holding_same h.sheet c.sheet.value i } }
    of_stage (refused e w p) = λ i. record { refusal = (check_answer a (refused e w p)).refusal; numbers = (check_answer a (refused e w p)).numbers; areas = record { rule = zeroed_same h.rule i; sheet = zeroed_same h.sheet i } }

-- ---- `jehvrukam_fits`
pub fits_lengths : (sheet record' : Bytes) (a b : FitsAreas) (m n : FitsNumbers) → SameFits a b → SameEntry (fits_entry sheet record' a m) (fits_entry sheet record' b n)
fits_lengths sheet record' a b m n h = alike (is_fits_invalid a) (is_fits_invalid b) m n a b _ _ (λ i. short_same h.sheet i || short_same h.«record» i) (of_stage (fits_stage sheet record'))
  where
    of_stage : (x : Stage TextsFitted) → fits_answer a x ≡ fits_answer b x
    of_stage (passed t) = λ i. record { refusal = 0; numbers = (fits_answer a (passed t)).numbers; areas = record { sheet = holding_same h.sheet t.sheet.value i; «record» = holding_same h.«record» t.«record» i } }
    of_stage (refused e w p) = λ i. record { refusal = (fits_answer a (refused e w p)).refusal; numbers = (fits_answer a (refused e w p)).numbers; areas = record { sheet = zeroed_same h.sheet i; «record» = zeroed_same h.«record» i } }

-- ---- evaluation
module _ {a b : WorkAreas} (h : SameWork a b) where
  run_same : (limit : ℕ) → cannot_run limit a.cells ≡ cannot_run limit b.cells
  run_same limit = λ i. ltb max_steps limit || ltb (h.cells i) cells_bytes

  zeroed_work_same : zeroed_work a ≡ zeroed_work b
  zeroed_work_same = λ i. work_areas (replicate (h.cells i) 0) (replicate (h.output i) 0)

  written_same : (text : Bytes) → work_areas (replicate (length a.cells) 0) (padded (length a.output) text) ≡ work_areas (replicate (length b.cells) 0) (padded (length b.output) text)
  written_same text = λ i. work_areas (replicate (h.cells i) 0) (padded (h.output i) text)

pub evaluate_lengths : (rule record' : Bytes) (limit : ℕ) (a b : Areas) (m n : Numbers) → SameEvaluate a b → SameEntry (evaluate_entry rule record' limit a m) (evaluate_entry rule record' limit b n)
evaluate_lengths rule record' limit a b m n h =
    alike (is_invalid limit a) (is_invalid limit b) m n a b _ _ (λ i. run_same h.work limit i || (short_same h.rule i || short_same h.«record» i)) (of_stage (evaluate_stage rule record'))
  where
    zeros_same : (k : ℕ) (x : Numbers) → ◌≡◌ {A = Evaluated} (record { refusal = k; numbers = x; areas = zeros a }) (record { refusal = k; numbers = x; areas = zeros b })
    zeros_same k x = λ i. record { refusal = k; numbers = x; areas = record { rule = zeroed_same h.rule i; «record» = zeroed_same h.«record» i; work = zeroed_work_same h.work i } }

    of_answer : (t : TextsRead) (j : Judged Bytes) (k : ℕ) → answered a t j k ≡ answered b t j k
    of_answer t (done text) k = λ i. record { refusal = 0; numbers = (answered a t (done text) k).numbers; areas = record { rule = holding_same h.rule t.rule.value i; «record» = holding_same h.«record» t.«record» i; work = written_same h.work text i } }
    of_answer t (refuses e) k = zeros_same (number e) (answered a t (refuses e) k).numbers

    of_stage : (x : Stage TextsRead) → evaluate_answer a limit x ≡ evaluate_answer b limit x
    of_stage (refused e w p) = zeros_same (number e) (evaluate_answer a limit (refused e w p)).numbers
    of_stage (passed t) =
        let x : ℕ → Answer = answer_of t.rule.content t.«record» limit in
        (λ i. answered a t (x (h.work.output i)).result (x (h.work.output i)).steps_begun) ∙ of_answer t (x (length b.work.output)).result (x (length b.work.output)).steps_begun

pub evaluate_checked_lengths : (rule sheet record' : Bytes) (limit : ℕ) (a b : CheckedAreas) (m n : CheckedNumbers) → SameChecked a b → SameEntry (evaluate_checked_entry rule sheet record' limit a m) (evaluate_checked_entry rule sheet record' limit b n)
evaluate_checked_lengths rule sheet record' limit a b m n h =
    alike (is_checked_invalid limit a) (is_checked_invalid limit b) m n a b _ _ (λ i. run_same h.work limit i || (short_same h.rule i || (short_same h.sheet i || short_same h.«record» i))) (of_stage (evaluate_checked_stage rule sheet record'))
  where
    zeros_same : (k : ℕ) (x : CheckedNumbers) → ◌≡◌ {A = Entry CheckedNumbers CheckedAreas} (record { refusal = k; numbers = x; areas = checked_zeros a }) (record { refusal = k; numbers = x; areas = checked_zeros b })
    zeros_same k x = λ i. record { refusal = k; numbers = x; areas = record { rule = zeroed_same h.rule i; sheet = zeroed_same h.sheet i; «record» = zeroed_same h.«record» i; work = zeroed_work_same h.work i } }

    of_answer : (t : CheckedTextsRead) (j : Judged Bytes) (k : ℕ) → checked_answered a t j k ≡ checked_answered b t j k
    of_answer t (done text) k = λ i. record { refusal = 0; numbers = checked_numbers t k (length text); areas = record { rule = holding_same h.rule t.checked.rule.value i; sheet = holding_same h.sheet t.checked.sheet.value i; «record» = holding_same h.«record» t.«record» i; work = written_same h.work text i } }
    of_answer t (refuses e) k = zeros_same (number e) (checked_numbers t k 0)

    of_stage : (x : Stage CheckedTextsRead) → evaluate_checked_answer a limit x ≡ evaluate_checked_answer b limit x
    of_stage (refused e w p) = zeros_same (number e) (evaluate_checked_answer a limit (refused e w p)).numbers
    of_stage (passed t) =
        let x : ℕ → Answer = answer_of t.checked.rule.content t.«record» limit in
        (λ i. checked_answered a t (x (h.work.output i)).result (x (h.work.output i)).steps_begun) ∙ of_answer t (x (length b.work.output)).result (x (length b.work.output)).steps_begun

-- ---- the viewer
pub told_numbers : {N : Type 0} (told : Option N) (m n : N) → SameTold (told_or m told) (told_or n told)
told_numbers None m n = record { refusal = refl; whole = λ k. absurd (k refl) }
told_numbers (Some x) m n = record { refusal = refl; whole = λ k. refl }
