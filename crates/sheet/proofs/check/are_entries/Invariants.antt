use Rattle.paths.specs.Laws.Loops.{Left}
use Rattle.sheet.specs.Inner.{ChecksEntries}
use Rattle.sheet.proofs.check.are_entries.Given as goal

abbrev pub invariant-loop-rest : goal.invariant-loop-rest
invariant-loop-rest l = Left (ChecksEntries l.sheet_table l.sheet_strings l.rest) (ChecksEntries l.sheet_table l.sheet_strings l.initial.rest)

abbrev pub decreases-loop-rest : goal.decreases-loop-rest
decreases-loop-rest l = l.rest.count
