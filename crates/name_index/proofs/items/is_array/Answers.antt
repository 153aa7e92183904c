-- The kind says it.
use Rattle.syntax.specs.Layout.{row_bytes}
use Rattle.name_index.proofs.Doubles.{behind_table, other_kind}
use Rattle.name_index.proofs.items.is_array.Goals as goal

pub returns-then-row-table : goal.returns-then-row-table
unfolding row_bytes
returns-then-row-table c e = other_kind _ _ _ c.if-row-table.true c.get_word.ensures.0 e

pub returns-else-row-table : goal.returns-else-row-table
unfolding row_bytes
returns-else-row-table c e = behind_table _ _ c.if-row-table.false
