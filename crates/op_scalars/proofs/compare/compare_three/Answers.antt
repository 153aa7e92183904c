use mathlib.Core.Path.{◌≡◌, sym, ap, ◌∙◌}
use mathlib.Core.Bool.{◌&&◌}
use Rattle.std.proofs.lemmas.Result.{err_from_is_err_and}
use Rattle.op_scalars.specs.Inner.{ordered}
use Rattle.op_scalars.proofs.Comparisons.{three_first, three_second, three_third, three_ordered}
use Rattle.op_scalars.proofs.compare.compare_three.Goals as goal
use Rattle.op_scalars.proofs.compare.compare_three.Goals.{then-holds, else-holds}

pub returns-in_err-l : goal.returns-in_err-l
returns-in_err-l c = let p = err_from_is_err_and c.from_residual.result c.from_residual.ensures.1 in rw (p.1, p.2) (three_first c.args.c c.in_err-l.ensures)

pub returns-in_err-m : goal.returns-in_err-m
returns-in_err-m c =
    let p = err_from_is_err_and c.from_residual-in_err-m.result c.from_residual-in_err-m.ensures.1 in
    rw (p.1, p.2) (three_second c.args.c c.in_ok-l.ensures c.in_err-m.ensures)

pub returns-in_err-n : goal.returns-in_err-n
returns-in_err-n c =
    let p = err_from_is_err_and c.from_residual-in_err-n.result c.from_residual-in_err-n.ensures.1 in
    rw (p.1, p.2) (three_third c.args.c c.in_ok-l.ensures c.in_ok-m.ensures c.in_err-n.ensures)

pub returns : goal.returns
returns c =
    let a = c.args in
    let both : c.if-holds.boolean ≡ ordered a.c c.in_ok-l.l c.in_ok-m.m && ordered a.c c.in_ok-m.m c.in_ok-n.n =
    elim c.if-holds.branch [
      | then-holds w ↦ w.boolean-is ∙ w.holds-then-holds.ensures ∙ ap (λ b. b && ordered a.c c.in_ok-m.m c.in_ok-n.n) (sym w.if-holds.true ∙ c.holds.ensures)
      | else-holds w ↦ w.boolean-is ∙ w.if-holds.false ∙ ap (λ b. b && ordered a.c c.in_ok-m.m c.in_ok-n.n) (sym w.if-holds.false ∙ c.holds.ensures)
    ] in
    three_ordered a.c c.in_ok-l.ensures c.in_ok-m.ensures c.in_ok-n.ensures c.boolean.ensures both
