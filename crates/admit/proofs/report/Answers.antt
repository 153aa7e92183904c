use borrow.Author.Rules.{rules}
use mathlib.Core.Path.{sym}
use Prim.Native.Nat.{ℕ}
use native.Mathlib.Omega.{arith}
use lib.ListN.{length-replicate}
use lib.Seq.{length-take-le}
use Rattle.admit.specs.Limits.{output_bytes}
use Rattle.admit.proofs.Whole.{result_short, result_near, report_begins}
use Rattle.admit.proofs.report.Goals as goal

pub evaluate-o-requires : goal.evaluate-o-requires
unfolding output_bytes
evaluate-o-requires c = length-replicate {A = ℕ} _ 0

pub slice_bounds-put_result-end : goal.slice_bounds-put_result-end
slice_bounds-put_result-end c = sym (length-take-le _ _ c.evaluate-o.ensures.within)

pub put_result-end-requires : goal.put_result-end-requires
put_result-end-requires c = result_short c.evaluate-o.ensures

pub put_number_line-requires : goal.put_number_line-requires
put_number_line-requires c = (result_near c.evaluate-o.ensures c.put_result-end.ensures, omega arith)

pub returns : goal.returns
returns c = report_begins c.args.rule.now c.args.«record».now c.evaluate-o.ensures c.put_result-end.ensures c.put_number_line.ensures c.requires
