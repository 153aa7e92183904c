use Rattle.chars.proofs.Steps.{taken_none}
use Rattle.chars.proofs.plain_rest.Goals as goal

pub returns-then-text-at-clause-taken : goal.returns-then-text-at-clause-taken
returns-then-text-at-clause-taken c = taken_none _ _ _ _ c.requires.inside
