use borrow.Author.Rules.{rules}
use Prim.Native.Nat.{◌-◌}
use borrow.Author.Tests.{eq-eqb, ne_eqb}
use lib.ListN.{length}
use Rattle.test_vectors.proofs.Searching.{SeekTo, seek_begins, seek_stops, seek_goes, seek_ends}
use Rattle.test_vectors.proofs.past.Goals as goal

pub loop-i-init : goal.loop-i-init
loop-i-init c = seek_begins c.args.text.now c.args.byte c.args.at c.requires

pub returns-then-text-i : goal.returns-then-text-i
returns-then-text-i c = seek_stops c.loop-i.invariant (search rules) (eq-eqb _ _ c.if-text-i.true)

pub loop-i-preserved : goal.loop-i-preserved
loop-i-preserved c = seek_goes c.loop-i.invariant (search rules) (ne_eqb _ _ c.if-text-i.false)

pub returns : goal.returns
returns c = seek_ends c.loop-i.invariant (search rules)
