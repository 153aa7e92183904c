use Rattle.scan.proofs.Words.{Comparing}
use Rattle.scan.proofs.token.compare.Given as goal

abbrev pub invariant-loop-i : goal.invariant-loop-i
invariant-loop-i l = Comparing l.text l.at l.word l.i
