use Rattle.chars.proofs.Loops.{tails_none, tails_more, tails_all, tails_some}
use Rattle.chars.proofs.Read.{tails_end, tails_not}
use Rattle.chars.proofs.Tables.{under, over}
use Rattle.chars.proofs.tails.Goals.{then-b-low-via-then-b-low, then-b-low-via-else-b-low+then-high-b}
use Rattle.chars.proofs.tails.Goals as goal

pub loop-i-init : goal.loop-i-init
loop-i-init c = tails_none _ _ _ _ _ c.requires

pub returns-then-text-at : goal.returns-then-text-at
returns-then-text-at c = tails_some c.loop-i.invariant c.loop-i-test.true (λ m. tails_end _ _ c.if-text-at.true m _ _)

pub returns-then-b-low : goal.returns-then-b-low
returns-then-b-low c =
    tails_some c.loop-i.invariant c.loop-i-test.true (λ m. tails_not _ _ c.if-text-at.false m _ _ (elim c.then-b-low.branch [
      | then-b-low-via-then-b-low w ↦ under _ _ _ w.if-b-low.true
      | then-b-low-via-else-b-low+then-high-b w ↦ over _ _ _ w.if-b-low.false w.if-high-b.true
    ]))

pub loop-i-preserved : goal.loop-i-preserved
loop-i-preserved c = tails_more c.loop-i.invariant c.loop-i-test.true c.if-text-at.false c.if-b-low.false c.if-high-b.false

pub returns : goal.returns
returns c = tails_all c.loop-i.invariant c.loop-i-test.false
