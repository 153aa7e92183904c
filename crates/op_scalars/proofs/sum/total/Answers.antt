use mathlib.Core.Logic.{inl, inr}
use native.Mathlib.Omega.{arith}
use Rattle.op_scalars.proofs.Sums.{sum_none, sum_beyond, sum_within}
use Rattle.op_scalars.proofs.sum.total.Goals as goal
use Rattle.op_scalars.proofs.sum.total.Goals.{then-s-le-BIAS-via-then-s-le-BIAS, then-s-le-BIAS-via-else-s-le-BIAS+then-s}

pub returns-then-m-gt-LARGEST : goal.returns-then-m-gt-LARGEST
returns-then-m-gt-LARGEST c = elim c.then-m-gt-LARGEST.either [ inl l ↦ sum_none (inl l) | inr l ↦ sum_none (inr l.1) ]

pub returns-then-s-le-BIAS : goal.returns-then-s-le-BIAS
returns-then-s-le-BIAS c =
    elim c.then-s-le-BIAS.branch [
      | then-s-le-BIAS-via-then-s-le-BIAS w ↦ sum_beyond (inl w.if-s-le-BIAS.true)
      | then-s-le-BIAS-via-else-s-le-BIAS+then-s w ↦ sum_beyond (inr w.if-s.true)
    ]

pub returns : goal.returns
returns c = sum_within (omega arith) (omega arith)
