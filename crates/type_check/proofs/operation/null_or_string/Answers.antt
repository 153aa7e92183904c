use Rattle.type_check.proofs.operation.null_or_string.Goals as goal

pub returns : goal.returns
returns c = rw (c.union.ensures, c.only-2.ensures, c.only.ensures)
