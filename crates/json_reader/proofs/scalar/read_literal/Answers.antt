-- Each way out is a law of Values.
use native.Mathlib.Omega.{arith}
use Rattle.model.proofs.Laws.Widths.{values_below}
use Rattle.json_reader.proofs.Values.{kind_small, law_literal}
use Rattle.json_reader.proofs.scalar.read_literal.Goals as goal

pub put_row-requires : goal.put_row-requires
put_row-requires c = record { rows = c.requires.rows; table = c.requires.table; kinds = rw c.kind_of.ensures (kind_small c.args.word); label = c.requires.label }

pub overflow_add-row : goal.overflow_add-row
overflow_add-row c = omega (arith, values_below)

pub returns : goal.returns
returns c = law_literal c.args.word c.in_ok-end.ensures c.requires.text c.requires.rows c.kind_of.ensures c.put_row.ensures.is c.place.ensures
