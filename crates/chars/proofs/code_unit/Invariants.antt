use Rattle.chars.proofs.Loops.{Hexes}
use Rattle.chars.proofs.code_unit.Given as goal

abbrev pub invariant-loop-i : goal.invariant-loop-i
invariant-loop-i l = Hexes l.text l.at l.i l.unit
