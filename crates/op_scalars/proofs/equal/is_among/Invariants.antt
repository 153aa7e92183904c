use mathlib.Core.Path.{◌≡◌}
use Rattle.op_scalars.specs.Inner.{among_parts}
use Rattle.op_scalars.proofs.equal.is_among.Given as goal

abbrev pub invariant-loop-rest : goal.invariant-loop-rest
invariant-loop-rest l = among_parts l.areas.rule_strings.now l.areas.record_strings.now l.areas.record_table.now l.areas.cells.now l.x l.rest.count l.rest ≡ among_parts l.areas.rule_strings.now l.areas.record_strings.now l.areas.record_table.now l.areas.cells.now l.x l.initial.rest.count l.initial.rest

abbrev pub decreases-loop-rest : goal.decreases-loop-rest
decreases-loop-rest l = l.rest.count
