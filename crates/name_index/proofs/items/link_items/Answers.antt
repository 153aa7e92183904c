-- A text of few values is left as it is.
use Rattle.name_index.proofs.Doubles.{values_few, values_many}
use Rattle.name_index.proofs.items.link_items.Goals as goal

pub returns-then-rows : goal.returns-then-rows
returns-then-rows c = values_many _ _ _ c.if-rows.true c.link_rows.ensures

pub returns-else-rows : goal.returns-else-rows
returns-else-rows c = values_few _ _ c.if-rows.false
