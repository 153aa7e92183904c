use Rattle.chars.proofs.Loops.{Tails}
use Rattle.chars.proofs.tails.Given as goal

abbrev pub invariant-loop-i : goal.invariant-loop-i
invariant-loop-i l = Tails l.text l.at l.n l.lo l.hi l.low l.high l.i
