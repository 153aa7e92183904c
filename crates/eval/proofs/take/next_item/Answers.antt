use mathlib.Core.Path.{refl, sym, ◌∙◌}
use native.Mathlib.Omega.{arith}
use Rattle.model.proofs.Laws.Widths.{cells_below}
use Rattle.eval.proofs.Taken.{no_items_there, items_done, item_next, two_puts}
use Rattle.eval.proofs.take.next_item.Goals as goal

pub returns-in_default : goal.returns-in_default
returns-in_default c = rw c.refused.ensures (no_items_there (sym c.elements_of.ensures ∙ c.in_default.is))

pub returns-then-p-eq0 : goal.returns-then-p-eq0
returns-then-p-eq0 c = rw c.ends.ensures (items_done c.in-Some.p (sym c.elements_of.ensures ∙ c.in-Some.is) c.if-p-eq0.true)

pub overflow_add-next : goal.overflow_add-next
overflow_add-next c = omega (arith, cells_below, c.requires.fits, c.requires.within)

pub returns : goal.returns
returns c = item_next c.in-Some.p (sym c.elements_of.ensures ∙ c.in-Some.is) c.head.result c.compound.result _ _ _ c.tail.result c.requires (omega arith) c.head.ensures (two_puts _ _ c.head.result c.args.value c.put.ensures c.put-2.ensures) c.compound.ensures refl refl c.tail.ensures
