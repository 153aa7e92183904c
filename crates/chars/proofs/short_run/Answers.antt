use Rattle.chars.proofs.Steps.{taken_none}
use Rattle.chars.proofs.short_run.Goals as goal

pub returns-then-not-is_plain-clause-taken : goal.returns-then-not-is_plain-clause-taken
returns-then-not-is_plain-clause-taken c = taken_none _ _ _ _ c.requires.inside
