use Prim.Native.Nat.{◌+◌}
use native.Mathlib.Omega.{arith}
use Rattle.model.specs.Calendar.{months}
use Rattle.model.proofs.Laws.Calendar.{sum_next, date_at_lem, next_month}
use Rattle.days.proofs.day.date_in_year.Goals as goal

pub loop-rest-preserved : goal.loop-rest-preserved
loop-rest-preserved c =
    let e = sum_next c.loop-rest.month (months c.args.year) (omega arith) in
    let f = c.in-Some.ensures in
    omega (arith, next_month c.loop-rest.month c.args.n (months c.args.year) (omega arith) (omega arith) (omega arith))

pub returns : goal.returns
returns c =
    let f = c.in_default.ensures in
    date_at_lem c.args.year c.args.n c.loop-rest.month (c.loop-rest.left + 1) (omega arith) (omega arith) (omega arith) (omega arith) (omega arith)
