use Rattle.type_check.proofs.operation.member_types.Goals as goal

pub returns : goal.returns
returns c = rw (c.accepted.ensures, c.only-2.ensures, c.passes-2.ensures, c.only.ensures, c.passes.ensures, c.scalars.ensures)
