-- An entry lies in the table; where there is none, the table stays.
use Rattle.name_index.proofs.Doubles.{entered, inside, put_none, put_is}
use mathlib.Core.Path.{sym, ◌∙◌}
use native.Mathlib.Omega.{arith}
use Rattle.name_index.proofs.items.put_double.Goals as goal

pub overflow_sub-row : goal.overflow_sub-row
overflow_sub-row c = omega (arith, (entered c.args.table.now c.args.row (sym c.has_entry.ensures ∙ c.if-has_entry.true)).low)

pub entry_at-requires : goal.entry_at-requires
entry_at-requires c = omega (arith, (entered c.args.table.now c.args.row (sym c.has_entry.ensures ∙ c.if-has_entry.true)).low, (entered c.args.table.now c.args.row (sym c.has_entry.ensures ∙ c.if-has_entry.true)).high)

pub put_word-requires : goal.put_word-requires
put_word-requires c =
    let a = c.args in
    inside a.table.now a.row c.entry_at.result (entered _ _ (sym c.has_entry.ensures ∙ c.if-has_entry.true)) c.entry_at.ensures

pub returns-then-has_entry : goal.returns-then-has_entry
returns-then-has_entry c = put_is _ _ _ _ _ (sym c.has_entry.ensures ∙ c.if-has_entry.true) c.entry_at.ensures c.put_word.ensures

pub returns-else-has_entry : goal.returns-else-has_entry
returns-else-has_entry c = put_none _ _ _ (sym c.has_entry.ensures ∙ c.if-has_entry.false)
