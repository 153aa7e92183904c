use borrow.Author.Rules.{rules}
use Prim.Native.Nat.{◌-◌}
use lib.ListN.{length}
use Rattle.test_vectors.proofs.Counting.{CountTo, count_begins, count_few, count_goes, count_ends}
use Rattle.test_vectors.proofs.take_cases.Goals as goal

pub loop-at-init : goal.loop-at-init
loop-at-init g c = count_begins c.args.text.now

pub count-tally-requires : goal.count-tally-requires
count-tally-requires g c = count_few c.loop-at.invariant (search rules) (search rules)

pub loop-at-smaller : goal.loop-at-smaller
loop-at-smaller g c = let r = c.run_case-c.ensures in search rules

pub loop-at-preserved : goal.loop-at-preserved
loop-at-preserved g c = count_goes c.loop-at.invariant (search rules) c.run_case-c.ensures c.count-tally.ensures

pub returns : goal.returns
returns g c = count_ends c.loop-at.invariant (search rules)
