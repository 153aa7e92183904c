use mathlib.Core.Path.{sym, ◌∙◌, refl}
use Rattle.jehvrukam.proofs.Entries.{cannot, rule_short, record_short, evaluated}
use Rattle.jehvrukam.proofs.jehvrukam_evaluate.Goals as goal

-- src/lib.rt:57:9
pub shape_of-cells-then-cannot_run : goal.shape_of-cells-then-cannot_run
shape_of-cells-then-cannot_run c = refl

-- src/lib.rt:57:9
pub returns-then-cannot_run : goal.returns-then-cannot_run
returns-then-cannot_run c = cannot _ _ c.args.limit _ _ _ _ _ _ _ (sym c.cannot_run.ensures ∙ c.if-cannot_run.true)

-- src/lib.rt:60:9
pub shape_of-rule_table-then-is_short : goal.shape_of-rule_table-then-is_short
shape_of-rule_table-then-is_short c = refl

-- src/lib.rt:60:9
pub shape_of-rule_strings-then-is_short : goal.shape_of-rule_strings-then-is_short
shape_of-rule_strings-then-is_short c = refl

-- src/lib.rt:60:9
pub shape_of-cells-then-is_short : goal.shape_of-cells-then-is_short
shape_of-cells-then-is_short c = refl

-- src/lib.rt:60:9
pub returns-then-is_short : goal.returns-then-is_short
returns-then-is_short c = rule_short _ _ c.args.limit _ _ _ _ _ _ _ (sym c.cannot_run.ensures ∙ c.if-cannot_run.false) (sym c.is_short.ensures ∙ c.if-is_short.true)

-- src/lib.rt:63:9
pub shape_of-rule_table-then-is_short-2 : goal.shape_of-rule_table-then-is_short-2
shape_of-rule_table-then-is_short-2 c = refl

-- src/lib.rt:63:9
pub shape_of-rule_strings-then-is_short-2 : goal.shape_of-rule_strings-then-is_short-2
shape_of-rule_strings-then-is_short-2 c = refl

-- src/lib.rt:63:9
pub shape_of-record_table-then-is_short-2 : goal.shape_of-record_table-then-is_short-2
shape_of-record_table-then-is_short-2 c = refl

-- src/lib.rt:63:9
pub shape_of-record_strings-then-is_short-2 : goal.shape_of-record_strings-then-is_short-2
shape_of-record_strings-then-is_short-2 c = refl

-- src/lib.rt:63:9
pub shape_of-cells-then-is_short-2 : goal.shape_of-cells-then-is_short-2
shape_of-cells-then-is_short-2 c = refl

-- src/lib.rt:63:9
pub returns-then-is_short-2 : goal.returns-then-is_short-2
returns-then-is_short-2 c = record_short _ _ c.args.limit _ _ _ _ _ _ _ (sym c.cannot_run.ensures ∙ c.if-cannot_run.false) (sym c.is_short.ensures ∙ c.if-is_short.false) (sym c.is_short-2.ensures ∙ c.if-is_short-2.true)

-- src/lib.rt:65:9
pub judge-judged-requires : goal.judge-judged-requires
judge-judged-requires c = (record { long = (sym c.is_short.ensures ∙ c.if-is_short.false) }, record { long = (sym c.is_short-2.ensures ∙ c.if-is_short-2.false) }, record { runs = (sym c.cannot_run.ensures ∙ c.if-cannot_run.false) })

-- src/lib.rt:38:1
pub shape_of-rule_table : goal.shape_of-rule_table
shape_of-rule_table c = c.settle_text.auto.table ∙ c.judge-judged.auto.rule_table

-- src/lib.rt:38:1
pub shape_of-rule_strings : goal.shape_of-rule_strings
shape_of-rule_strings c = c.settle_text.auto.strings ∙ c.judge-judged.auto.rule_strings

-- src/lib.rt:38:1
pub shape_of-record_table : goal.shape_of-record_table
shape_of-record_table c = c.settle_text-2.auto.table ∙ c.judge-judged.auto.record_table

-- src/lib.rt:38:1
pub shape_of-record_strings : goal.shape_of-record_strings
shape_of-record_strings c = c.settle_text-2.auto.strings ∙ c.judge-judged.auto.record_strings

-- src/lib.rt:38:1
pub shape_of-cells : goal.shape_of-cells
shape_of-cells c = c.settle_work.auto.cells ∙ c.judge-judged.auto.cells

-- src/lib.rt:38:1
pub shape_of-output : goal.shape_of-output
shape_of-output c = c.settle_work.auto.output ∙ c.judge-judged.auto.output

-- src/lib.rt:38:1
pub returns : goal.returns
returns c = evaluated _ _ c.args.limit _ _ _ _ _ _ _ (sym c.cannot_run.ensures ∙ c.if-cannot_run.false) (sym c.is_short.ensures ∙ c.if-is_short.false) (sym c.is_short-2.ensures ∙ c.if-is_short-2.false) c.outcome_told-e.ensures c.judge-judged.ensures c.settle_text.ensures c.settle_text-2.ensures c.settle_work.ensures
