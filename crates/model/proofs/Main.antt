-- Main: demand 3 and the theorems around it, restated with nothing else; the proofs are in Laws. The starred rows of 01 are in Laws.Rows.
-- A text is taken as the value that it reads as; `shape`, `sheetOf` and `check` give some where the text is a rule, a sheet, and the rule is accepted.
use mathlib.Core.Path.{◌≡◌, ap}
use mathlib.Core.List.{[], Memᴰ, reverse}
use Rattle.std.specs.Prelude.{◌⊎◌, ℕ, ◌≤◌, T, ℤ, length}
use Rattle.std.proofs.Common.{inl, inr}
use Rattle.std.specs.Prelude.{Some}
use Rattle.model.specs.Bounds.{bounded}
use Rattle.model.specs.Bytes.{Bytes}
use Rattle.model.specs.DateText.{date_text, day_text}
use Rattle.model.specs.Eval.{run, Outcome, value, refusal, outcome}
use Rattle.model.specs.Instant.{in_range}
use Rattle.model.specs.InstantText.{instant_text}
use Rattle.model.specs.Judgement.{answer_of}
use Rattle.model.specs.Limits.{max_steps}
use Rattle.model.specs.Path.{Path, lookup}
use Rattle.model.specs.Place.{subrule, replace, subvalue, replace_value}
use Rattle.model.specs.Refusal.{eval_number}
use Rattle.model.specs.declared.refusal.Fault.TheVariants.{OutOfRange}
use Rattle.model.specs.declared.refusal.EvalFault.TheVariants.{OutOfSteps}
use Rattle.model.specs.Result.{ok, refuse}
use Rattle.model.specs.Rule.{Rule}
use Rattle.model.specs.Run.{Place, Name, trace, steps, NeverBegins}
use Rattle.model.specs.Shape.{shape}
use Rattle.model.specs.Sheet.{Sheet, sheet_of, fits}
use Rattle.model.specs.TypeCheck.{check}
use Rattle.model.specs.Types.{Types, has_type}
use Rattle.model.specs.Value.{Value, instant_free}
use Rattle.model.proofs.Laws.Bounds as BoundsLaws
use Rattle.model.proofs.Laws.DateText as DateTextLaws
use Rattle.model.proofs.Laws.Found as FoundLaws
use Rattle.model.proofs.Laws.InstantText as InstantTextLaws
use Rattle.model.proofs.Laws.Limit as LimitLaws
use Rattle.model.proofs.Laws.Lookup as LookupLaws
use Rattle.model.proofs.Laws.Replace as ReplaceLaws
use Rattle.model.proofs.Laws.Soundness as Soundness
use Rattle.model.proofs.Laws.Trace as TraceLaws

-- ---- demand 3a
-- The value belongs to a type that the check named, or the refusal is 9 or 10.
abbrev pub EndsWell : Types → Outcome → Type 0
EndsWell ts (value v) = T (has_type ts v)
EndsWell ts (refusal e) = (eval_number e ≡ 9) ⊎ (eval_number e ≡ 10)

-- A rule that the kind check accepts, on a record that fits the sheet, under any limit up to the largest, ends well: never in 7 or 8.
-- (A record has no instant in it: no text reads as one, `read-well-formed` of the crate syntax, which also has this theorem over texts.)
pub demand_3a :
    (rule sheet record' : Value) (r : Rule) (s : Sheet) (ts : Types) (limit : ℕ)
    → shape rule ≡ Some r
    → sheet_of sheet ≡ Some s
    → check r s ≡ Some ts
    → T (instant_free record')
    → T (fits s record')
    → limit ≤ max_steps
    → EndsWell ts (outcome (run r record' limit))
demand_3a rule sheet record' r s ts limit is-rule is_sheet_lem accepted free fit within = numbered (outcome (run r record' limit)) (Soundness.check_sound r s ts record' limit accepted free fit)
  where
    numbered : (o : Outcome) → Soundness.Sound ts o → EndsWell ts o
    numbered (value v) h = h
    numbered (refusal e) (inl h) = inl (ap eval_number h)
    numbered (refusal e) (inr h) = inr (ap eval_number h)

-- The check finds at least one type for a rule that it accepts.
pub found_some : (sheet : Value) (r : Rule) (s : Sheet) (ts : Types) → sheet_of sheet ≡ Some s → check r s ≡ Some ts → ¬ (ts ≡ [])
found_some = FoundLaws.found_some

-- ---- demand 3b
-- For any rule of right shape, record and limit: another rule put in the place of an operand rule that the run never begins.
-- If the whole still has right shape, both runs end alike, in value or refusal and in steps.
pub demand_3b :
    (rule new record' : Value) (r s t r' : Rule) (place : Place) (limit : ℕ)
    → shape rule ≡ Some r
    → shape new ≡ Some s
    → subrule place r ≡ Some t
    → NeverBegins place (run r record' limit)
    → shape (replace_value place new rule) ≡ Some r'
    → (outcome (run r' record' limit) ≡ outcome (run r record' limit)) × (steps (run r' record' limit) ≡ steps (run r record' limit))
demand_3b rule new record' r s t r' place limit is-rule is-new stands unbegun is_whole = ReplaceLaws.unbegun_same_value rule new record' r s t place limit is-rule is-new stands unbegun r' is_whole

-- So the whole answer is the same: text or refusal and steps, after the tests of 11 and 12 too.
pub demand_3b_answer :
    (rule new record' : Value) (r s t r' : Rule) (place : Place) (limit room : ℕ)
    → shape rule ≡ Some r
    → shape new ≡ Some s
    → subrule place r ≡ Some t
    → NeverBegins place (run r record' limit)
    → shape (replace_value place new rule) ≡ Some r'
    → answer_of r' record' limit room ≡ answer_of r record' limit room
demand_3b_answer rule new record' r s t r' place limit room is-rule is-new stands unbegun is_whole = ReplaceLaws.unbegun_same_answer rule new record' r s t place limit room is-rule is-new stands unbegun r' is_whole

-- The whole does have right shape, and the rule at a place is the shape of the value there.
pub replaced_is_rule :
    (rule new : Value) (r s t : Rule) (place : Place)
    → shape rule ≡ Some r
    → shape new ≡ Some s
    → subrule place r ≡ Some t
    → shape (replace_value place new rule) ≡ Some (replace place s r)
replaced_is_rule rule new r s t place is-rule is-new stands = ReplaceLaws.replace_shape place rule new r s t is-rule is-new stands

pub operand_is_rule :
    (rule : Value) (r t : Rule) (place : Place)
    → shape rule ≡ Some r
    → subrule place r ≡ Some t
    → (v : Value) × (subvalue place rule ≡ Some v) × (shape v ≡ Some t)
operand_is_rule rule r t place is-rule stands = ReplaceLaws.part_shape place rule r t is-rule stands

-- ---- steps and names
-- There are as many names as steps.
pub names_are_steps : (r : Rule) (record' : Value) (limit : ℕ) → steps (run r record' limit) ≡ length (trace (run r record' limit))
names_are_steps r record' limit = mathlib.Core.Path.refl

-- Every name in a trace is the place of a rule in the rule.
pub names_are_places :
    (r : Rule) (record' : Value) (limit : ℕ) (name : Name)
    → Memᴰ name (trace (run r record' limit))
    → (place : Place) × (t : Rule) × (name ≡ reverse place) × (subrule place r ≡ Some t)
names_are_places = TraceLaws.names_are_places

-- Steps never exceed the limit; refusal 10 reports it.
pub steps_within_limit : (r : Rule) (record' : Value) (limit : ℕ) → steps (run r record' limit) ≤ limit
steps_within_limit = LimitLaws.steps_within_limit

pub out_of_steps_reports_limit : (r : Rule) (record' : Value) (limit : ℕ) → outcome (run r record' limit) ≡ refusal OutOfSteps → steps (run r record' limit) ≡ limit
out_of_steps_reports_limit = LimitLaws.out_of_steps_reports_limit

-- ---- dates
-- A day is a date, with the same instant.
pub day_is_date : (s : Bytes) (t : ℤ) → day_text s ≡ ok t → date_text s ≡ ok t
day_is_date = DateTextLaws.day_is_date

-- Each of the first three forms is in range: a text of theirs is an instant or 8, never 9.
pub day_never_out : (s : Bytes) → ¬ (day_text s ≡ refuse OutOfRange)
day_never_out = DateTextLaws.day_never_out

-- An instant's text has 24 bytes and reads back as the instant.
pub text_24 : (t : ℤ) → length (instant_text t) ≡ 24
text_24 = InstantTextLaws.text_24

pub reads_back : (t : ℤ) → T (in_range t) → date_text (instant_text t) ≡ ok t
reads_back = InstantTextLaws.reads_back

-- ---- bounds
-- From a rule and a record whose integers are within the limits, and whose instants (there are none in a text) are in range, so is the answer.
pub answer_bounded :
    (rule record' : Value) (r : Rule) (limit : ℕ) (v : Value)
    → shape rule ≡ Some r
    → T (bounded rule)
    → T (bounded record')
    → outcome (run r record' limit) ≡ value v
    → T (bounded v)
answer_bounded = BoundsLaws.answer_bounded

-- ---- records
-- What a path leads to in a value without instants has none.
pub lookup_instant_free : (q : Path) (c v : Value) → T (instant_free c) → lookup q c ≡ Some v → T (instant_free v)
lookup_instant_free = LookupLaws.lookup_instant_free
