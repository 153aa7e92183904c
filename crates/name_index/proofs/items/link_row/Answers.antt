-- Only an array that is to have an index is changed.
use Rattle.name_index.proofs.Doubles.{row_left}
use Rattle.name_index.proofs.items.link_row.Goals as goal

pub returns-then-not-is_array : goal.returns-then-not-is_array
returns-then-not-is_array c = row_left _ _ (c.is_array.ensures c.if-not-is_array.true)
