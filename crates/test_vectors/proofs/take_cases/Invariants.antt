use borrow.Author.Rules.{rules}
use Prim.Native.Nat.{◌-◌}
use lib.ListN.{length}
use Rattle.test_vectors.proofs.Counting.{CountTo, count_begins, count_few, count_goes, count_ends}
use Rattle.test_vectors.proofs.take_cases.Given as goal

abbrev pub invariant-loop-at : goal.invariant-loop-at
invariant-loop-at g l = CountTo l.text l.at l.tally

abbrev pub decreases-loop-at : goal.decreases-loop-at
decreases-loop-at g l = length l.text - l.at
