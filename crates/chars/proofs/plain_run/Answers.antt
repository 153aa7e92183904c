use native.Mathlib.Omega.{arith}
use Rattle.chars.proofs.Loops.{taken_start, taken_next}
use Rattle.chars.proofs.plain_run.Goals as goal

pub loop-k-init : goal.loop-k-init
loop-k-init c = taken_start _ _ _ _ c.requires.0.inside

pub loop-k-preserved : goal.loop-k-preserved
loop-k-preserved c = taken_next _ _ _ c.loop-k.invariant (omega (arith, c.requires.1)) (c.is_plain.ensures c.if-not-is_plain.false)
