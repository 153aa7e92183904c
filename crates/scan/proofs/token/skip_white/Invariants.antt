use Rattle.scan.proofs.Words.{Skipping}
use Rattle.scan.proofs.token.skip_white.Given as goal

abbrev pub invariant-loop-i : goal.invariant-loop-i
invariant-loop-i l = Skipping l.text l.at l.i
