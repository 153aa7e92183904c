use mathlib.Core.List.{[]}
use Rattle.paths.specs.Laws.Loops.{Left}
use Rattle.type_set.specs.Contract.{set_of}
use Rattle.sheet.specs.Inner.{Collects}
use Rattle.sheet.proofs.content.collect.Given as goal

abbrev pub invariant-loop-rest : goal.invariant-loop-rest
invariant-loop-rest l = Left (Collects l.sheet_table l.sheet_strings l.set l.rest) (Collects l.sheet_table l.sheet_strings (set_of []) l.initial.rest)

abbrev pub decreases-loop-rest : goal.decreases-loop-rest
decreases-loop-rest l = l.rest.count
