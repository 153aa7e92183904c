use native.Mathlib.Omega.{arith}
use Rattle.paths.specs.Laws.Loops.{begins, goes_on}
use Rattle.sheet.proofs.Contents.{collect_end, no_word, word_again, collect_on}
use Rattle.sheet.proofs.content.collect.Goals as goal

pub loop-rest-init : goal.loop-rest-init
loop-rest-init c = rw c.none-set.ensures begins

pub returns-in_err-word : goal.returns-in_err-word
returns-in_err-word c = rw c.from_residual.ensures (c.loop-rest.invariant.goes _ (no_word _ _ c.loop-rest.set c.loop-rest.rest (omega arith) c.node_at.ensures c.type_at.ensures c.in_err-word.was))

pub returns-in_err-set : goal.returns-in_err-set
returns-in_err-set c = rw c.from_residual-in_err-set.ensures (c.loop-rest.invariant.goes _ (word_again _ _ c.loop-rest.set c.loop-rest.rest (omega arith) c.node_at.ensures c.type_at.ensures c.in_ok-word.was c.with.ensures c.in_err-set.was))

pub loop-rest-smaller : goal.loop-rest-smaller
loop-rest-smaller c = rw c.tail-rest.ensures (omega arith)

pub loop-rest-preserved : goal.loop-rest-preserved
loop-rest-preserved c = goes_on c.loop-rest.invariant (collect_on _ _ c.loop-rest.set c.loop-rest.rest (omega arith) c.node_at.ensures c.type_at.ensures c.in_ok-word.was c.with.ensures c.in_ok-set.set c.in_ok-set.was c.tail-rest.ensures)

pub returns : goal.returns
returns c = c.loop-rest.invariant.goes _ (collect_end _ _ c.loop-rest.set c.loop-rest.rest (omega arith))
