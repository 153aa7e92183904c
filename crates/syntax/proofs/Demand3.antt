-- Demand3: demand 3 over texts, restated with nothing else; the proofs are in Laws.
-- A text is a rule's, a sheet's or a record's where `read` gives its value and `shape`, `sheetOf` and `check` give some.
use Rattle.std.specs.Prelude.{◌≡◌, ◌++◌, ℕ, ◌≤◌, T, length}
use Rattle.std.proofs.Common.{sym, subst, ap, ◌∙◌}
use Rattle.std.specs.Prelude.{Some}
use Rattle.model.specs.Bytes.{Bytes}
use Rattle.model.specs.Eval.{run, outcome}
use Rattle.model.specs.Judgement.{answer_of}
use Rattle.model.specs.Limits.{max_text_bytes, max_values, max_nesting, max_steps}
use Rattle.model.proofs.Main as Model
use Rattle.model.proofs.Main.{EndsWell}
use Rattle.model.specs.Place.{subrule, replace, replace_value}
use Rattle.model.specs.declared.refusal.ReadFault.{ReadFault}
use Rattle.model.specs.declared.refusal.ReadFault.TheVariants.{TooLarge}
use Rattle.model.specs.Rule.{Rule}
use Rattle.model.specs.Run.{Place, steps, NeverBegins}
use Rattle.model.specs.Shape.{shape}
use Rattle.model.specs.Sheet.{Sheet, sheet_of, fits}
use Rattle.model.specs.Size.{value_count, nesting}
use Rattle.model.specs.TypeCheck.{check}
use Rattle.model.specs.Types.{Types}
use Rattle.model.specs.Value.{Value}
use Rattle.syntax.specs.Locate.{Positions, StandsAt, positions_of}
use Rattle.syntax.specs.Read.{done, refuse, read}
use Rattle.syntax.specs.WellFormed.{WellFormedValue}
use Rattle.syntax.proofs.Laws.OnePlace as OnePlaceLaws
use Rattle.syntax.proofs.Laws.Substitution as SubstitutionLaws
use Rattle.syntax.proofs.Laws.WellFormed as WellFormedLaws

-- ---- what reads
pub read_well_formed : (s : Bytes) (v : Value) → read s ≡ done v → WellFormedValue v
read_well_formed = WellFormedLaws.read_well_formed

-- ---- demand 3a
-- A rule text that the kind check accepts with a sheet text, on a record text that fits it, under any limit up to the largest, ends well:
-- in a value of a type that the check named, or in refusal 9 or 10.
pub demand_3a_bytes :
    (rule_text_lem sheet-text record_text_lem : Bytes) (rule sheet record' : Value) (r : Rule) (s : Sheet) (ts : Types) (limit : ℕ)
    → read rule_text_lem ≡ done rule
    → shape rule ≡ Some r
    → read sheet-text ≡ done sheet
    → sheet_of sheet ≡ Some s
    → check r s ≡ Some ts
    → read record_text_lem ≡ done record'
    → T (fits s record')
    → limit ≤ max_steps
    → EndsWell ts (outcome (run r record' limit))
demand_3a_bytes rule_text_lem sheet-text record_text_lem rule sheet record' r s ts limit reads is-rule reads₂ is_sheet_lem accepted reads₃ fit within =
    Model.demand_3a rule sheet record' r s ts limit is-rule is_sheet_lem accepted (WellFormedLaws.read_well_formed record_text_lem record' reads₃).no_instants fit within

-- ---- demand 3b
-- For any rule text of right shape, record text and limit: the bytes `old` of an operand rule that the run never begins give way to any text
-- `new` that reads and is a rule. If the whole reads and has right shape, both runs end alike, in value or refusal and in steps.
pub demand_3b_bytes :
    (text text' record_text_lem before old after new : Bytes) (rule rule' record' new_rule : Value) (r r' s t : Rule) (place : Place) (limit : ℕ)
    → read text ≡ done rule
    → shape rule ≡ Some r
    → read record_text_lem ≡ done record'
    → subrule place r ≡ Some t
    → NeverBegins place (run r record' limit)
    → StandsAt text (positions_of place rule) before old after
    → read new ≡ done new_rule
    → shape new_rule ≡ Some s
    → text' ≡ before ++ (new ++ after)
    → read text' ≡ done rule'
    → shape rule' ≡ Some r'
    → (outcome (run r' record' limit) ≡ outcome (run r record' limit)) × (steps (run r' record' limit) ≡ steps (run r record' limit))
demand_3b_bytes text text' record_text_lem before old after new rule rule' record' new_rule r r' s t place limit reads is-rule reads-record there unbegun stands reads-new is-new is reads' is-rule' =
    let same = SubstitutionLaws.replaced_operand place rule r t stands reads is-rule there new new_rule rule' reads-new (sym (ap read is) ∙ reads') in
    Model.demand_3b rule new_rule record' r s t r' place limit is-rule is-new there unbegun (sym (ap shape same) ∙ is-rule')

-- So the whole answer is the same: text or refusal and steps, after the tests of 11 and 12 too.
pub demand_3b_bytes_answer :
    (text text' record_text_lem before old after new : Bytes) (rule rule' record' new_rule : Value) (r r' s t : Rule) (place : Place) (limit room : ℕ)
    → read text ≡ done rule
    → shape rule ≡ Some r
    → read record_text_lem ≡ done record'
    → subrule place r ≡ Some t
    → NeverBegins place (run r record' limit)
    → StandsAt text (positions_of place rule) before old after
    → read new ≡ done new_rule
    → shape new_rule ≡ Some s
    → text' ≡ before ++ (new ++ after)
    → read text' ≡ done rule'
    → shape rule' ≡ Some r'
    → answer_of r' record' limit room ≡ answer_of r record' limit room
demand_3b_bytes_answer text text' record_text_lem before old after new rule rule' record' new_rule r r' s t place limit room reads is-rule reads-record there unbegun stands reads-new is-new is reads' is-rule' =
    let same = SubstitutionLaws.replaced_operand place rule r t stands reads is-rule there new new_rule rule' reads-new (sym (ap read is) ∙ reads') in
    Model.demand_3b_answer rule new_rule record' r s t r' place limit room is-rule is-new there unbegun (sym (ap shape same) ∙ is-rule')

-- ---- where an operand stands
-- Every operand rule of a rule text stands in the text; StandsAt says with which bytes.
pub operand_stands :
    (text : Bytes) (rule : Value) (r t : Rule) (place : Place)
    → read text ≡ done rule
    → shape rule ≡ Some r
    → subrule place r ≡ Some t
    → (before : Bytes) × (old : Bytes) × (after : Bytes) × StandsAt text (positions_of place rule) before old after
operand_stands text rule r t place = SubstitutionLaws.operand_stands text place rule r t

-- By themselves its bytes read, and are that rule.
pub operand_reads :
    (text before old after : Bytes) (rule : Value) (r t : Rule) (place : Place)
    → read text ≡ done rule
    → shape rule ≡ Some r
    → subrule place r ≡ Some t
    → StandsAt text (positions_of place rule) before old after
    → (v : Value) × (read old ≡ done v) × (shape v ≡ Some t)
operand_reads text before old after rule r t place reads is-rule there stands = SubstitutionLaws.operand_reads place rule r t stands reads is-rule there

-- In a text that reads, a value stands at one place.
pub stands_once :
    (text before old after before' old' after' : Bytes) (v : Value) (q : Positions)
    → read text ≡ done v
    → StandsAt text q before old after
    → StandsAt text q before' old' after'
    → (before ≡ before') × (old ≡ old') × (after ≡ after')
stands_once text before old after before' old' after' v q reads stands stands' = OnePlaceLaws.stands_once stands stands' v reads

-- ---- the whole
-- If the whole reads, it is the rule's value with that one value replaced, and has right shape,
pub replaced_is_rule :
    (text text' before old after new : Bytes) (rule rule' new_rule : Value) (r s t : Rule) (place : Place)
    → read text ≡ done rule
    → shape rule ≡ Some r
    → subrule place r ≡ Some t
    → StandsAt text (positions_of place rule) before old after
    → read new ≡ done new_rule
    → shape new_rule ≡ Some s
    → text' ≡ before ++ (new ++ after)
    → read text' ≡ done rule'
    → (rule' ≡ replace_value place new_rule rule) × (shape rule' ≡ Some (replace place s r))
replaced_is_rule text text' before old after new rule rule' new_rule r s t place reads is-rule there stands reads-new is-new is reads' =
    let same = SubstitutionLaws.replaced_operand place rule r t stands reads is-rule there new new_rule rule' reads-new (sym (ap read is) ∙ reads') in
    (same, ap shape same ∙ Model.replaced_is_rule rule new_rule r s t place is-rule is-new there)

-- and it reads if it is within the limits.
pub replaced_reads :
    (text text' before old after new : Bytes) (rule new_rule : Value) (r t : Rule) (place : Place)
    → read text ≡ done rule
    → shape rule ≡ Some r
    → subrule place r ≡ Some t
    → StandsAt text (positions_of place rule) before old after
    → read new ≡ done new_rule
    → text' ≡ before ++ (new ++ after)
    → length text' ≤ max_text_bytes
    → value_count (replace_value place new_rule rule) ≤ max_values
    → nesting (replace_value place new_rule rule) ≤ max_nesting
    → read text' ≡ done (replace_value place new_rule rule)
replaced_reads text text' before old after new rule new_rule r t place reads is-rule there stands reads-new is short few flat =
    ap read is ∙ SubstitutionLaws.replaced_operand_reads place rule r t stands reads is-rule there new new_rule reads-new (subst (λ x. length x ≤ max_text_bytes) is short) few flat

-- Else it is refused with 5, and with nothing else.
pub replaced_refused :
    (text text' before old after new : Bytes) (rule new_rule : Value) (place : Place) (k : ReadFault) (p : ℕ)
    → read text ≡ done rule
    → StandsAt text (positions_of place rule) before old after
    → read new ≡ done new_rule
    → text' ≡ before ++ (new ++ after)
    → read text' ≡ refuse k p
    → k ≡ TooLarge
replaced_refused text text' before old after new rule new_rule place k p reads stands reads-new is refused = SubstitutionLaws.replaced_refused stands new rule new_rule reads reads-new k p (sym (ap read is) ∙ refused)
