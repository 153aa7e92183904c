use mathlib.Core.Path.{◌∙◌}
use Rattle.name_index.proofs.Doubles.{going_first, going_done, going_over, going_next}
use native.Mathlib.Omega.{arith}
use Rattle.model.specs.Limits.{max_values}
use Rattle.name_index.specs.Items.{item_row}
use Rattle.name_index.proofs.items.item_row.Goals as goal
use Rattle.name_index.proofs.items.item_row.Goals.{then-digit-rest, else-digit-rest}

pub loop-digit-init : goal.loop-digit-init
unfolding max_values
loop-digit-init c = going_first _ _ _

pub double_at-row-requires : goal.double_at-row-requires
double_at-row-requires c = tt

pub next_row-row-requires : goal.next_row-row-requires
next_row-row-requires c = tt

pub loop-digit-preserved : goal.loop-digit-preserved
loop-digit-preserved c =
    let a = c.args in
    let l = c.loop-digit in
    let more = c.loop-digit-test.true in
    let far = c.double_at-row in
    let goal = item_row a.table.now a.first a.at in
    elim c.if-digit-rest.branch [
      | then-digit-rest w ↦ rw w.rest-is (going_next a.table.now l.row l.rest l.digit goal far.result c.if-digit-rest.row l.invariant more w.if-digit-rest.true far.ensures (w.row-is ∙ w.next_row-row.ensures))
      | else-digit-rest w ↦ rw w.rest-is (going_over a.table.now l.row l.rest l.digit goal c.if-digit-rest.row l.invariant more w.if-digit-rest.false (w.row-is ∙ far.ensures))
    ]

pub returns : goal.returns
returns c = going_done _ _ _ _ _ c.loop-digit.invariant (omega arith)
