use mathlib.Core.Path.{sym, ◌∙◌, refl}
use Rattle.jehvrukam.proofs.TwoTexts.{check_rule_short, check_sheet_short, checked}
use Rattle.jehvrukam.proofs.jehvrukam_check.Goals as goal

-- src/lib.rt:56:9
pub shape_of-rule_table-then-is_short : goal.shape_of-rule_table-then-is_short
shape_of-rule_table-then-is_short c = refl

-- src/lib.rt:56:9
pub shape_of-rule_strings-then-is_short : goal.shape_of-rule_strings-then-is_short
shape_of-rule_strings-then-is_short c = refl

-- src/lib.rt:56:9
pub returns-then-is_short : goal.returns-then-is_short
returns-then-is_short c = check_rule_short _ _ _ _ _ _ _ (sym c.is_short.ensures ∙ c.if-is_short.true)

-- src/lib.rt:59:9
pub shape_of-rule_table-then-is_short-2 : goal.shape_of-rule_table-then-is_short-2
shape_of-rule_table-then-is_short-2 c = refl

-- src/lib.rt:59:9
pub shape_of-rule_strings-then-is_short-2 : goal.shape_of-rule_strings-then-is_short-2
shape_of-rule_strings-then-is_short-2 c = refl

-- src/lib.rt:59:9
pub shape_of-sheet_table-then-is_short-2 : goal.shape_of-sheet_table-then-is_short-2
shape_of-sheet_table-then-is_short-2 c = refl

-- src/lib.rt:59:9
pub shape_of-sheet_strings-then-is_short-2 : goal.shape_of-sheet_strings-then-is_short-2
shape_of-sheet_strings-then-is_short-2 c = refl

-- src/lib.rt:59:9
pub returns-then-is_short-2 : goal.returns-then-is_short-2
returns-then-is_short-2 c = check_sheet_short _ _ _ _ _ _ _ (sym c.is_short.ensures ∙ c.if-is_short.false) (sym c.is_short-2.ensures ∙ c.if-is_short-2.true)

-- src/lib.rt:41:1
pub shape_of-rule_table : goal.shape_of-rule_table
shape_of-rule_table c = c.settle_text.auto.table ∙ c.check_texts-checked.auto.rule_table

-- src/lib.rt:41:1
pub shape_of-rule_strings : goal.shape_of-rule_strings
shape_of-rule_strings c = c.settle_text.auto.strings ∙ c.check_texts-checked.auto.rule_strings

-- src/lib.rt:41:1
pub shape_of-sheet_table : goal.shape_of-sheet_table
shape_of-sheet_table c = c.settle_text-2.auto.table ∙ c.check_texts-checked.auto.sheet_table

-- src/lib.rt:41:1
pub shape_of-sheet_strings : goal.shape_of-sheet_strings
shape_of-sheet_strings c = c.settle_text-2.auto.strings ∙ c.check_texts-checked.auto.sheet_strings

-- src/lib.rt:41:1
pub returns : goal.returns
returns c = checked _ _ _ _ _ _ _ (sym c.is_short.ensures ∙ c.if-is_short.false) (sym c.is_short-2.ensures ∙ c.if-is_short-2.false) (rw c.none.ensures at c.told-c.ensures) c.check_texts-checked.ensures (record { first = c.check_texts-checked.auto.rule_table; second = c.check_texts-checked.auto.rule_strings }) (record { first = c.check_texts-checked.auto.sheet_table; second = c.check_texts-checked.auto.sheet_strings }) c.settle_text.ensures c.settle_text-2.ensures c.bits.ensures
