-- Each way out is a record Breaks, Closes or Continued.
use mathlib.Core.Path.{refl}
use native.Mathlib.Omega.{arith}
use Rattle.model.proofs.Laws.Widths.{values_below}
use Rattle.json_reader.proofs.list.follow.Goals as goal

pub overflow_add-count : goal.overflow_add-count
overflow_add-count c = omega (arith, values_below, c.requires)

pub returns-in-Close : goal.returns-in-Close
returns-in-Close c = record { meets = record { end = _; skipped = c.skip_white-end.ensures; closing = c.in-Close.ensures; is = refl } }

pub returns-in-Comma : goal.returns-in-Comma
returns-in-Comma c = record { meets = record { end = _; skipped = c.skip_white-end.ensures; comma = c.in-Comma.ensures; next = _; white = c.skip_white.ensures; is = refl } }

pub returns-in-Neither : goal.returns-in-Neither
returns-in-Neither c = record { meets = record { skipped = c.skip_white-end.ensures; neither = c.in-Neither.ensures; reason = refl } }
