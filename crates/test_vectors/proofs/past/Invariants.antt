use borrow.Author.Rules.{rules}
use Prim.Native.Nat.{◌-◌}
use borrow.Author.Tests.{eq-eqb, ne_eqb}
use lib.ListN.{length}
use Rattle.test_vectors.proofs.Searching.{SeekTo, seek_begins, seek_stops, seek_goes, seek_ends}
use Rattle.test_vectors.proofs.past.Given as goal

abbrev pub invariant-loop-i : goal.invariant-loop-i
invariant-loop-i l = SeekTo l.text l.byte l.at l.i

abbrev pub decreases-loop-i : goal.decreases-loop-i
decreases-loop-i l = length l.text - l.i
