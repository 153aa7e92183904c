use Rattle.type_check.proofs.operation.all_types.Goals as goal

pub returns : goal.returns
returns c = c.union.ensures
