use Rattle.type_check.proofs.operation.no_operands.Goals as goal

pub returns : goal.returns
returns c = rw (c.none-2.ensures, c.none.ensures)
