-- Stage: what comes of a stage of an entry: a result, or a refusal with the text and the place that are told with it.
use Rattle.std.specs.Prelude.{ℕ}
use Rattle.model.specs.Bytes.{Bytes}
use Rattle.model.specs.Judgement.{Judged, done, refuses}
use Rattle.model.specs.declared.refusal.Refusal.{Refusal}
use Rattle.model.specs.declared.refusal.Refusal.TheVariants.{Reading}
use Rattle.model.specs.Value.{Value}
use Rattle.syntax.specs.Read as readings
use Rattle.syntax.specs.Read.{Read, read}

pub data Stage (A : Type 0) : Type 0 where
  passed : A → Stage A
  refused : Refusal → (which place : ℕ) → Stage A

-- The first refusal stays.
infixl 10 ◌>>=◌
abbrev pub ◌>>=◌ : {A B : Type 0} → Stage A → (A → Stage B) → Stage B
passed a >>= f = f a
refused e which place >>= f = refused e which place

-- "Refusals 2 to 5 also say which text and the place." The texts have the numbers 1 (rule), 2 (sheet) and 3 (record).
abbrev pub rule_text : ℕ
rule_text = 1

abbrev pub sheet_text : ℕ
sheet_text = 2

abbrev pub record_text : ℕ
record_text = 3

abbrev pub as_read : ℕ → Read → Stage Value
as_read which (readings.done v) = passed v
as_read which (readings.refuse k p) = refused (Reading k) which p

abbrev pub read_as : ℕ → Bytes → Stage Value
read_as which s = as_read which (read s)

-- Any other refusal says 0 for both.
abbrev pub as_judged : {A : Type 0} → Judged A → Stage A
as_judged (done a) = passed a
as_judged (refuses e) = refused e 0 0
