-- Rows: the starred rows of 01's table "Both sides of the line", each as one theorem by computation, from the value that the rule's text reads as.
use Rattle.std.specs.Prelude.{◌≡◌, refl, List, [], ◌∷◌, ℕ, pos}
use Rattle.std.specs.Prelude.{Option, Some}
use Prim.Native.String.{String}
use Rattle.model.specs.Bytes.{ascii}
use Rattle.model.specs.Calendar.{months, sum_first, year_start, date_of_day}
use Rattle.model.specs.DateText.{starts_like, day_text, date_text}
use Rattle.model.specs.Eval.{body}
use Rattle.model.specs.InstantText.{instant_text}
use Rattle.model.specs.Judgement.{Answer, done, refuses, answer_of}
use Rattle.model.specs.Limits.{max_integer, max_steps, max_text_bytes, max_values, max_nesting}
use Rattle.model.specs.Option.{◌>>=◌}
use Rattle.model.specs.declared.refusal.Fault.TheVariants.{WrongKind, OutOfRange}
use Rattle.model.specs.declared.refusal.EvalFault.TheVariants.{Operation, OutOfSteps}
use Rattle.model.specs.declared.refusal.Refusal.{Refusal}
use Rattle.model.specs.declared.refusal.Refusal.TheVariants.{Evaluating}
use Rattle.model.specs.Shape.{shape}
use Rattle.model.specs.Shift.{shift}
use Rattle.model.specs.Size.{value_count, nesting}
use Rattle.model.specs.Value.{Value, scalar, array, object, integer, string, Values, no_items, item, no_members, member}
use Rattle.model.specs.Writing.{decimal, value_text}

-- ---- texts as values
abbrev items : List Value → Values
items [] = no_items
items (v ∷ l) = item v (items l)

-- [..], {"name":[..]}, {"var":"path"}, a number, "text"
abbrev pub arr : List Value → Value
arr l = array (items l)

abbrev pub op : String → List Value → Value
op name l = object (member (ascii name) (arr l) no_members)

abbrev pub str : String → Value
str s = scalar (string (ascii s))

abbrev pub var : String → Value
var s = object (member (ascii "var") (str s) no_members)

abbrev pub int : ℕ → Value
int n = scalar (integer (pos n))

-- "record `{"a":1}`"
abbrev pub row_record : Value
row_record = object (member (ascii "a") (int 1) no_members)

-- ---- answers of a value that is a rule: a text, or a refusal, and the steps
abbrev pub judged : Value → ℕ → Option Answer
judged rule limit = do
  r ← shape rule
  Some (answer_of r row_record limit max_text_bytes)

abbrev pub gives : String → ℕ → Option Answer
gives s n = Some (record { result = done (ascii s); steps_begun = n })

abbrev pub denies : Refusal → ℕ → Option Answer
denies e n = Some (record { result = refuses e; steps_begun = n })

-- {"===":[{"var":"a"},1]}
pub row_equal : judged (op "===" (var "a" ∷ int 1 ∷ [])) max_steps ≡ gives "true" 3
unfolding shape body value_text value_count nesting max_steps max_text_bytes max_values max_nesting
row_equal = refl

-- {"and":[0,{"+":["a",1]}]}
pub row_and : judged (op "and" (int 0 ∷ op "+" (str "a" ∷ int 1 ∷ []) ∷ [])) max_steps ≡ gives "0" 2
unfolding shape body value_text value_count nesting decimal max_steps max_text_bytes max_values max_nesting
row_and = refl

-- {"!":[[]]}
pub row_not : judged (op "!" (arr [] ∷ [])) max_steps ≡ gives "true" 2
unfolding shape body value_text value_count nesting max_steps max_text_bytes max_values max_nesting
row_not = refl

-- {">":[3,2,"x"]}
pub row_greater : judged (op ">" (int 3 ∷ int 2 ∷ str "x" ∷ [])) max_steps ≡ denies (Evaluating (Operation WrongKind)) 4
unfolding shape body max_steps
row_greater = refl

-- "Ending a three-operand comparison before the third kind is tested" is a slip: here the first pair fails already. {">":[1,2,"x"]}
pub third_kind_tested : judged (op ">" (int 1 ∷ int 2 ∷ str "x" ∷ [])) max_steps ≡ denies (Evaluating (Operation WrongKind)) 4
unfolding shape body max_steps
third_kind_tested = refl

-- {"+":[9007199254740991,1]}
pub row_plus : judged (op "+" (int 9007199254740991 ∷ int 1 ∷ [])) max_steps ≡ denies (Evaluating (Operation OutOfRange)) 3
unfolding shape body max_steps max_integer
row_plus = refl

-- {"reduce":[[1,2,3],{"+":[{"var":"current"},{"var":"accumulator"}]},0]}
abbrev pub reduce_rule : Value
reduce_rule = op "reduce" (arr (int 1 ∷ int 2 ∷ int 3 ∷ []) ∷ op "+" (var "current" ∷ var "accumulator" ∷ []) ∷ int 0 ∷ [])

pub row_reduce : judged reduce_rule max_steps ≡ gives "6" 15
unfolding shape body value_text value_count nesting decimal max_steps max_text_bytes max_values max_nesting max_integer
row_reduce = refl

-- "With limit 15 the reduce row still gives 6; with 14 it gives 10 and reports 14."
pub row_reduce_15 : judged reduce_rule 15 ≡ gives "6" 15
unfolding shape body value_text value_count nesting decimal max_text_bytes max_values max_nesting max_integer
row_reduce_15 = refl

pub row_reduce_14 : judged reduce_rule 14 ≡ denies (Evaluating OutOfSteps) 14
unfolding shape body max_integer
row_reduce_14 = refl

-- {"plusTime":["2020-01-31",1,"month"]}
pub row_month : judged (op "plusTime" (str "2020-01-31" ∷ int 1 ∷ str "month" ∷ [])) max_steps ≡ gives "\"2020-03-02T00:00:00.000Z\"" 2
unfolding shape body date_text day_text starts_like shift date_of_day year_start months sum_first instant_text value_text value_count nesting max_steps max_text_bytes max_values max_nesting
row_month = refl

-- {"plusTime":["2020-02-29",1,"year"]}
pub row_year : judged (op "plusTime" (str "2020-02-29" ∷ int 1 ∷ str "year" ∷ [])) max_steps ≡ gives "\"2021-03-01T00:00:00.000Z\"" 2
unfolding shape body date_text day_text starts_like shift date_of_day year_start months sum_first instant_text value_text value_count nesting max_steps max_text_bytes max_values max_nesting
row_year = refl

-- {"extractFromUVCI":["URN:UVCI",0]}
pub row_uvci : judged (op "extractFromUVCI" (str "URN:UVCI" ∷ int 0 ∷ [])) max_steps ≡ gives "null" 2
unfolding shape body value_text value_count nesting max_steps max_text_bytes max_values max_nesting
row_uvci = refl
