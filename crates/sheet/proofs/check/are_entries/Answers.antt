use mathlib.Core.Path.{ap}
use mathlib.Core.Bool.{not}
use native.Mathlib.Omega.{arith}
use Rattle.paths.specs.Laws.Loops.{begins, goes_on}
use Rattle.sheet.proofs.Checking.{entries_end, no_entry, entries_on}
use Rattle.sheet.proofs.check.are_entries.Goals as goal

pub loop-rest-init : goal.loop-rest-init
loop-rest-init c = begins

pub returns-then-not-is_entry : goal.returns-then-not-is_entry
returns-then-not-is_entry c = c.loop-rest.invariant.goes _ (no_entry (omega arith) c.is_entry.ensures (ap not c.if-not-is_entry.true))

pub loop-rest-smaller : goal.loop-rest-smaller
loop-rest-smaller c = rw c.tail-rest.ensures (omega arith)

pub loop-rest-preserved : goal.loop-rest-preserved
loop-rest-preserved c = goes_on c.loop-rest.invariant (entries_on (omega arith) c.is_entry.ensures (ap not c.if-not-is_entry.false) c.tail-rest.ensures)

pub returns : goal.returns
returns c = c.loop-rest.invariant.goes _ (entries_end (omega arith))
