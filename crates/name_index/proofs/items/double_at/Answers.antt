-- An entry lies in the table; where there is none, the answer is 0.
use Rattle.name_index.proofs.Doubles.{entered, inside, double_none, double_is}
use mathlib.Core.Path.{sym, ◌∙◌}
use native.Mathlib.Omega.{arith}
use Rattle.name_index.proofs.items.double_at.Goals as goal

pub returns-then-not-has_entry : goal.returns-then-not-has_entry
returns-then-not-has_entry c =
    let a = c.args in
    double_none a.table.now a.row (sym c.has_entry.ensures ∙ c.if-not-has_entry.true)

pub overflow_sub-row : goal.overflow_sub-row
overflow_sub-row c = omega (arith, (entered c.args.table.now c.args.row (sym c.has_entry.ensures ∙ c.if-not-has_entry.false)).low)

pub entry_at-requires : goal.entry_at-requires
entry_at-requires c = omega (arith, (entered c.args.table.now c.args.row (sym c.has_entry.ensures ∙ c.if-not-has_entry.false)).low, (entered c.args.table.now c.args.row (sym c.has_entry.ensures ∙ c.if-not-has_entry.false)).high)

pub get_word-requires : goal.get_word-requires
get_word-requires c = inside c.args.table.now c.args.row c.entry_at.result (entered _ _ (sym c.has_entry.ensures ∙ c.if-not-has_entry.false)) c.entry_at.ensures

pub returns : goal.returns
returns c =
    let a = c.args in
    double_is a.table.now a.row c.entry_at.result c.get_word.result (sym c.has_entry.ensures ∙ c.if-not-has_entry.false) c.entry_at.ensures c.get_word.ensures.0
