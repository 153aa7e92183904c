use Rattle.std.proofs.Common.{sym, ◌∙◌, ◌-◌, arith}
use Rattle.viewer.proofs.Walk.{nth_none, nth_last, nth_gone}
use Rattle.viewer.proofs.part.part_from.Goals as goal

pub returns-in_err-at : goal.returns-in_err-at
returns-in_err-at c = c.from_residual.ensures ∙ sym (c.loop.invariant ∙ nth_none c.args.table.now c.args.end (c.args.nth - c.loop.counter) c.loop.at (omega arith) (sym c.next.ensures ∙ c.in_err-at.was))

pub returns : goal.returns
returns c = sym (c.loop.invariant ∙ nth_last c.args.table.now c.args.end (c.args.nth - c.loop.counter) c.loop.at (omega arith) c.in_ok-next.field-0 (sym c.next-2.ensures ∙ c.in_ok-next.was))

pub returns-in_err-next : goal.returns-in_err-next
returns-in_err-next c = c.from_residual-in_err-next.ensures ∙ sym (c.loop.invariant ∙ nth_gone c.args.table.now c.args.end (c.args.nth - c.loop.counter) c.loop.at (omega arith) (sym c.next-2.ensures ∙ c.in_err-next.was))
