use Rattle.type_check.proofs.operation.one_more.Goals as goal

pub returns : goal.returns
returns c = rw c.all_types.ensures
