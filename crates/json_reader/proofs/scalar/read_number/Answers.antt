-- Each way out is a law of Values.
use native.Mathlib.Omega.{arith}
use Rattle.model.proofs.Laws.Widths.{values_below}
use Rattle.json_reader.proofs.Values.{law_number}
use Rattle.json_reader.proofs.scalar.read_number.Goals as goal

pub overflow_add-row : goal.overflow_add-row
overflow_add-row c = omega (arith, values_below)

pub returns : goal.returns
returns c = law_number c.args.negative _ c.in_ok-n.ensures c.requires.text c.requires.rows c.put_row.ensures.is c.place.ensures
