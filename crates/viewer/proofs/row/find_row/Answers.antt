use mathlib.Core.Path.{sym, ◌∙◌}
use Rattle.viewer.proofs.Seen.{row_there, row_is, row_not, row_past}
use Rattle.viewer.proofs.row.find_row.Goals as goal

pub returns-then-rows-place : goal.returns-then-rows-place
returns-then-rows-place c =
    let a = c.args in
    row_past a.table.now a.place _ c.row_count-rows.ensures c.if-rows-place.true

pub returns-then-has_form : goal.returns-then-has_form
returns-then-has_form c =
    let a = c.args in
    row_is a.table.now a.place _ _ c.row_count-rows.ensures c.if-rows-place.false (c.row_at-r.ensures.0 ∙ row_there a.table.now a.place _ c.row_count-rows.ensures c.if-rows-place.false) (sym c.has_form.ensures ∙ c.if-has_form.true)

pub returns-else-has_form : goal.returns-else-has_form
returns-else-has_form c =
    let a = c.args in
    row_not a.table.now a.place _ _ c.row_count-rows.ensures c.if-rows-place.false (c.row_at-r.ensures.0 ∙ row_there a.table.now a.place _ c.row_count-rows.ensures c.if-rows-place.false) (sym c.has_form.ensures ∙ c.if-has_form.false)
