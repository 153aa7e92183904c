-- Contract: what the functions promise of texts and of the areas lent for them. Laws.LongAreas: what that comes to with areas that are long enough.
use Rattle.std.specs.Prelude.{Bool, cond, ◌≡◌, ℕ, Result, Ok, Err, ⊤}
use Rattle.model.specs.Bytes.{Bytes}
use Rattle.model.specs.declared.refusal.Refusal.{Refusal}
use Rattle.model.specs.declared.refusal.Refusal.TheVariants.{InvalidArgument}
use Rattle.model.specs.Rule.{Rule}
use Rattle.model.specs.Sheet.{Sheet, fits}
use Rattle.model.specs.Value.{Value}
use Rattle.pipeline.specs.declared.text.Stop.{Stop}
use Rattle.type_set.specs.declared.set.TypeSet.{TypeSet}
use Rattle.type_set.specs.Contract.{set_of}
use Rattle.pipeline.specs.Areas.{TextAreas, is_short, left_by, tidied, HoldsIndexed, HoldsMarked}
use Rattle.pipeline.specs.Stage.{Stage, passed, refused, ◌>>=◌, rule_text, sheet_text, record_text, read_as}
use Rattle.pipeline.specs.Texts.{TextRead, rule_stage, sheet_stage, TextsChecked, check_stage, TextsFitted, fits_stage}

-- A refusal, with the text and the place that are told with it.
abbrev pub stop : Refusal → (which place : ℕ) → Stop
stop e which place = record { refusal = e; which = which; place = place }

-- What the code answers for a stage: what it asks of the result, or the refusal.
abbrev pub result_of : {A B : Type 0} → (A → B) → Stage A → Result B Stop
result_of f (passed a) = Ok (f a)
result_of f (refused e which place) = Err (stop e which place)

-- It asks nothing of a text.
abbrev pub stop_of : {A : Type 0} → Stage A → Result ⊤ Stop
stop_of x = result_of (λ a. tt) x

-- A stage of a text with the areas lent for it: refusal 1 where they are below their stated sizes.
abbrev pub lent : {A : Type 0} → TextAreas → ℕ → Stage A → Stage A
lent a which x = cond (is_short a) (refused InvalidArgument which 0) x

-- "Refusal 1 touches nothing": areas below their stated sizes stay; others are as reading leaves them, whatever comes after it.
abbrev pub left_in : Bytes → TextAreas → TextAreas
left_in s a = cond (is_short a) a (left_by s a)

-- Areas a' that were a before reading, once their work room is cleared; there is none in areas below their stated sizes.
abbrev pub tidied_in : TextAreas → TextAreas → TextAreas
tidied_in a a' = cond (is_short a) a' (tidied a')

-- `areas`: the final bytes, but for the work room; `holds`: what the areas hold once the stage is passed.
pub record Reads (which : ℕ) (s : Bytes) (a : TextAreas) (r : Result ⊤ Stop) (a' : TextAreas) : Type 0 where
  pub stop : r ≡ stop_of (lent a which (read_as which s))
  pub areas : tidied_in a a' ≡ left_in s a
  pub holds : (v : Value) → lent a which (read_as which s) ≡ passed v → HoldsIndexed v a'

pub record ReadsRule (s : Bytes) (a : TextAreas) (r : Result ⊤ Stop) (a' : TextAreas) : Type 0 where
  pub stop : r ≡ stop_of (lent a rule_text (rule_stage s))
  pub areas : tidied_in a a' ≡ left_in s a
  pub holds : (x : TextRead Rule) → lent a rule_text (rule_stage s) ≡ passed x → HoldsMarked x.value a'

pub record ReadsSheet (s : Bytes) (a : TextAreas) (r : Result ⊤ Stop) (a' : TextAreas) : Type 0 where
  pub stop : r ≡ stop_of (lent a sheet_text (sheet_stage s))
  pub areas : tidied_in a a' ≡ left_in s a
  pub holds : (x : TextRead Sheet) → lent a sheet_text (sheet_stage s) ≡ passed x → HoldsIndexed x.value a'

-- Areas that are b' after a stage; b where it is not passed.
abbrev pub left_after : {A : Type 0} → Stage A → TextAreas → TextAreas → TextAreas
left_after (passed x) b b' = b'
left_after (refused e which place) b b' = b

-- The types found.
abbrev pub types_of : Stage TextsChecked → Result TypeSet Stop
types_of x = result_of (λ t. set_of t.types) x

-- The areas of the sheet's text are looked at once the rule's stage is passed.
abbrev pub check_in : TextAreas → TextAreas → Bytes → Bytes → Stage TextsChecked
check_in a b rule sheet = lent a rule_text (rule_stage rule) >>= λ x. lent b sheet_text (check_stage rule sheet)

pub record ChecksTexts (rule sheet : Bytes) (a b : TextAreas) (r : Result TypeSet Stop) (a' b' : TextAreas) : Type 0 where
  pub types : r ≡ types_of (check_in a b rule sheet)
  pub rule_areas : tidied_in a a' ≡ left_in rule a
  pub sheet_areas : left_after (lent a rule_text (rule_stage rule)) b' (tidied_in b b') ≡ left_after (lent a rule_text (rule_stage rule)) b (left_in sheet b)
  pub rule_holds : (t : TextsChecked) → check_in a b rule sheet ≡ passed t → HoldsMarked t.rule.value a'
  pub sheet_holds : (t : TextsChecked) → check_in a b rule sheet ≡ passed t → HoldsIndexed t.sheet.value b'

-- Whether the record fits.
abbrev pub fit_of : Stage TextsFitted → Result Bool Stop
fit_of x = result_of (λ t. fits t.sheet.content t.«record») x

abbrev pub fits_in : TextAreas → TextAreas → Bytes → Bytes → Stage TextsFitted
fits_in a b sheet record' = lent a sheet_text (sheet_stage sheet) >>= λ x. lent b record_text (fits_stage sheet record')

pub record FitsTexts (sheet record' : Bytes) (a b : TextAreas) (r : Result Bool Stop) (a' b' : TextAreas) : Type 0 where
  pub fit : r ≡ fit_of (fits_in a b sheet record')
  pub sheet_areas : tidied_in a a' ≡ left_in sheet a
  pub record_areas : left_after (lent a sheet_text (sheet_stage sheet)) b' (tidied_in b b') ≡ left_after (lent a sheet_text (sheet_stage sheet)) b (left_in record' b)
