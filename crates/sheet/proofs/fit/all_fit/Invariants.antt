use Rattle.paths.specs.Laws.Loops.{Left}
use Rattle.sheet.specs.Inner.{FitsAll}
use Rattle.sheet.proofs.fit.all_fit.Given as goal

abbrev pub invariant-loop-rest : goal.invariant-loop-rest
invariant-loop-rest l = Left (FitsAll l.sheet_table l.sheet_strings l.rest l.«record».table.now l.«record».strings.now) (FitsAll l.sheet_table l.sheet_strings l.initial.rest l.«record».table.now l.«record».strings.now)

abbrev pub decreases-loop-rest : goal.decreases-loop-rest
decreases-loop-rest l = l.rest.count
