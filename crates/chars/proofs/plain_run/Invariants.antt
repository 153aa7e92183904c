use Prim.Native.Nat.{◌+◌}
use Rattle.chars.specs.Inner.{Taken}
use Rattle.chars.proofs.plain_run.Given as goal

abbrev pub invariant-loop-k : goal.invariant-loop-k
invariant-loop-k l = Taken l.text l.at l.used l.initial.strings (l.at + l.k) (l.used + l.k) l.strings
