use Rattle.scan.proofs.Numerals.{Counting}
use Rattle.scan.proofs.number.digits.Given as goal

abbrev pub invariant-loop-i : goal.invariant-loop-i
invariant-loop-i l = Counting l.text l.at l.negative l.first l.i l.n
