use Rattle.paths.proofs.Digits.{ReadTo}
use Rattle.paths.proofs.index.read_index.Given as goal

abbrev pub invariant-loop-digit : goal.invariant-loop-digit
invariant-loop-digit l = ReadTo l.fragment l.at l.digit-index
