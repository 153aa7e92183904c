-- Each way out is a law of Values.
use mathlib.Core.Path.{◌≡◌}
use Rattle.std.specs.Prelude.{Err}
use Rattle.std.proofs.Common.{rules}
use native.Mathlib.Omega.{arith}
use Rattle.model.proofs.Laws.Widths.{text_below, values_below}
use Rattle.json_reader.proofs.Values.{string_end, law_string, law_string_bad}
use Rattle.json_reader.proofs.scalar.read_string.Goals as goal

pub overflow_sub-end : goal.overflow_sub-end
overflow_sub-end c = (string_end c.in_ok-end.ensures).1

pub overflow_add-end : goal.overflow_add-end
overflow_add-end c = omega (arith, text_below, string_end c.in_ok-end.ensures)

pub overflow_add-row : goal.overflow_add-row
overflow_add-row c = omega (arith, values_below)

pub returns : goal.returns
returns c = law_string c.in_ok-end.ensures c.requires.0.text c.requires.1 c.put_row.ensures.is c.place.ensures

pub returns-in_err-end : goal.returns-in_err-end
returns-in_err-end c =
    let e : c.from_residual.result ≡ Err c.in_err-end.field-0.0 = search rules in
    rw e (law_string_bad c.in_err-end.ensures)
