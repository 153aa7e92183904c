use Rattle.type_check.proofs.operation.passing.Goals as goal

pub returns : goal.returns
returns c = rw (c.accepted.ensures, c.passes.ensures)
