-- The row that is stored.
use native.Mathlib.Omega.{arith}
use Rattle.model.proofs.Laws.Widths.{text_below, values_below}
use Rattle.json_reader.proofs.row.empty.Goals as goal

pub overflow_add-row : goal.overflow_add-row
overflow_add-row c = omega (arith, values_below)

pub overflow_add-at : goal.overflow_add-at
overflow_add-at c = omega (arith, text_below)

pub overflow_add-row-2 : goal.overflow_add-row-2
overflow_add-row-2 c = omega (arith, values_below)

pub returns : goal.returns
returns c = record { is = c.place.ensures; table = c.put_row.ensures.is }
