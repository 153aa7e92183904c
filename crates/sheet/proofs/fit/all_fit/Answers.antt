use mathlib.Core.Bool.{not}
use mathlib.Core.Path.{ap, ◌∙◌}
use native.Mathlib.Omega.{arith}
use Rattle.paths.specs.Laws.Loops.{begins, goes_on}
use Rattle.sheet.proofs.Fitting.{fit_end, one_unfit, fit_on}
use Rattle.sheet.proofs.fit.all_fit.Goals as goal

pub loop-rest-init : goal.loop-rest-init
loop-rest-init c = begins

pub returns-then-not-entry_fits : goal.returns-then-not-entry_fits
returns-then-not-entry_fits c = c.loop-rest.invariant.goes _ (one_unfit (omega arith) (c.bytes_of-path.ensures ∙ rw c.name_at.ensures) c.types_at-listed.ensures c.entry_fits.ensures (ap not c.if-not-entry_fits.true))

pub loop-rest-smaller : goal.loop-rest-smaller
loop-rest-smaller c = rw c.tail-rest.ensures (omega arith)

pub loop-rest-preserved : goal.loop-rest-preserved
loop-rest-preserved c = goes_on c.loop-rest.invariant (fit_on (omega arith) (c.bytes_of-path.ensures ∙ rw c.name_at.ensures) c.types_at-listed.ensures c.entry_fits.ensures (ap not c.if-not-entry_fits.false) c.tail-rest.ensures)

pub returns : goal.returns
returns c = c.loop-rest.invariant.goes _ (fit_end (omega arith))
