use mathlib.Core.Path.{sym, ◌∙◌}
use native.Mathlib.Omega.{arith}
use Rattle.op_uvci.proofs.Fragments.{ends_inside, prefix_alone, first_other, second_other, prefix_dropped}
use Rattle.op_uvci.proofs.numbered_from.Goals as goal
use Rattle.op_uvci.proofs.numbered_from.Goals.{else-same-via-then-same+else-same-2, else-same-via-else-same}

pub returns-then-first-text : goal.returns-then-first-text
returns-then-first-text c = prefix_alone c.end_of-first.ensures c.if-first-text.true

pub overflow_add-rest : goal.overflow_add-rest
overflow_add-rest c = omega (arith, ends_inside c.args.text.now 0 _ (omega arith) c.end_of-first.ensures)

pub overflow_add-result : goal.overflow_add-result
overflow_add-result c = omega (arith, ends_inside c.args.text.now _ _ (omega (arith, ends_inside c.args.text.now 0 _ (omega arith) c.end_of-first.ensures)) c.end_of-second.ensures)

pub returns-then-same-2 : goal.returns-then-same-2
returns-then-same-2 c = prefix_dropped c.end_of-first.ensures c.if-first-text.false c.end_of-second.ensures c.part_of.ensures (sym c.same.ensures ∙ c.if-same.true) c.part_of-then-same.ensures (sym c.same-then-same.ensures ∙ c.if-same-2.true)

pub returns : goal.returns
returns c =
    elim c.else-same.branch [
      | else-same-via-then-same+else-same-2 w ↦ second_other c.end_of-first.ensures c.if-first-text.false c.end_of-second.ensures c.part_of.ensures (sym c.same.ensures ∙ w.if-same.true) w.part_of-then-same.ensures (sym w.same-then-same.ensures ∙ w.if-same-2.false)
      | else-same-via-else-same w ↦ first_other c.end_of-first.ensures c.if-first-text.false c.end_of-second.ensures c.part_of.ensures (sym c.same.ensures ∙ w.if-same.false)
    ]
