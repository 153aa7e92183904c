-- The loop's invariant is Going of Doubles: the digits left lead from the row to the item.
use Rattle.name_index.proofs.Doubles.{Going}
use Rattle.name_index.specs.Items.{item_row}
use Rattle.name_index.proofs.items.item_row.Given as goal

abbrev pub invariant-loop-digit : goal.invariant-loop-digit
invariant-loop-digit l = Going l.table l.row l.rest l.digit (item_row l.table l.first l.at)

abbrev pub decreases-loop-digit : goal.decreases-loop-digit
decreases-loop-digit l = l.digit
