use mathlib.Core.Path.{ap}
use Prim.Native.Nat.{◌+◌, ◌≤◌}
use native.Mathlib.Omega.{arith}
use lib.ListN.{length, drop, length-drop}
use Rattle.std.specs.List.{prefix_len}
use Rattle.print.specs.Inner.{plain}
use Rattle.print.proofs.Runs.{run_goes, rest_all, run_inside}
use Rattle.print.proofs.string.plain_run.Goals as goal

pub loop-at-preserved : goal.loop-at-preserved
loop-at-preserved c =
    let room : c.loop-at.at + 8 ≤ length c.args.s.now = omega (arith, c.loop-at-test.true) in
    (room, omega (arith, c.loop-at.invariant.1, run_goes plain c.args.s.now c.loop-at.at 8 room c.all_plain.ensures c.if-all_plain.true))

pub overflow_add-result : goal.overflow_add-result
overflow_add-result c = omega (arith, c.plain_count.ensures, ap (prefix_len plain) (rest_all c.args.s.now c.loop-at.at), run_inside plain (drop c.loop-at.at c.args.s.now), length-drop c.loop-at.at c.args.s.now)

pub returns : goal.returns
returns c = omega (arith, c.loop-at.invariant.1, c.plain_count.ensures, ap (prefix_len plain) (rest_all c.args.s.now c.loop-at.at))
