use Rattle.std.proofs.lemmas.Result.{err_from_is_err_and}
use Rattle.op_scalars.proofs.Comparisons.{two_first, two_second, two_ordered}
use Rattle.op_scalars.proofs.compare.compare.Goals as goal

pub returns-in_err-m : goal.returns-in_err-m
returns-in_err-m c = let p = err_from_is_err_and c.from_residual.result c.from_residual.ensures.1 in rw (p.1, p.2) (two_first c.args.c c.in_err-m.ensures)

pub returns-in_err-n : goal.returns-in_err-n
returns-in_err-n c =
    let p = err_from_is_err_and c.from_residual-in_err-n.result c.from_residual-in_err-n.ensures.1 in
    rw (p.1, p.2) (two_second c.args.c c.in_ok-m.ensures c.in_err-n.ensures)

pub returns : goal.returns
returns c = two_ordered c.args.c c.in_ok-m.ensures c.in_ok-n.ensures c.boolean.ensures c.holds.ensures
