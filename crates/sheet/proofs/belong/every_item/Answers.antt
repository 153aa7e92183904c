use mathlib.Core.Path.{◌∙◌}
use native.Mathlib.Omega.{arith}
use Rattle.sheet.proofs.Belonging.{items_end, other_item, items_on}
use Rattle.sheet.proofs.belong.every_item.Goals as goal

pub returns-then-not-test : goal.returns-then-not-test
returns-then-not-test g c is k = other_item is _ _ (omega arith) c.node_at.ensures (k _ _ c.test.ensures) c.if-not-test.true ∙ c.loop-rest.invariant is k

pub loop-rest-smaller : goal.loop-rest-smaller
loop-rest-smaller g c = rw c.tail-rest.ensures (omega arith)

pub loop-rest-preserved : goal.loop-rest-preserved
loop-rest-preserved g c is k = items_on is _ _ (omega arith) c.node_at.ensures (k _ _ c.test.ensures) c.if-not-test.false c.tail-rest.ensures ∙ c.loop-rest.invariant is k

pub returns : goal.returns
returns g c is k = items_end is _ _ (omega arith) ∙ c.loop-rest.invariant is k
