use Rattle.shape.proofs.Loop.{Going}
use Rattle.shape.proofs.is_rule.Given as goal

abbrev pub invariant-loop-row : goal.invariant-loop-row
invariant-loop-row l = Going l.initial.rule_table l.rule_strings l.end l.rule_table l.row
