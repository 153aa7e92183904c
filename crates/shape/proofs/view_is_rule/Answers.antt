use Rattle.shape.proofs.view_is_rule.Goals as goal

pub returns-in-Var : goal.returns-in-Var
returns-in-Var c = rw (c.in-Var.is, c.is_path.ensures, c.bytes_of.ensures)
