-- Two words make the entry of `noded`.
use Rattle.name_index.proofs.Table.{two_words}
use Rattle.name_index.specs.Slots.{place}
use Rattle.syntax.specs.Layout.{row_bytes, entry_bytes}
use Rattle.model.proofs.Laws.Widths.{values_below}
use native.Mathlib.Omega.{arith}
use Rattle.name_index.proofs.put_node.Goals as goal

pub put_word-requires : goal.put_word-requires
unfolding place row_bytes entry_bytes
put_word-requires c = omega (arith, c.entry_at-entry.ensures, c.requires)

pub overflow_add-entry : goal.overflow_add-entry
unfolding place row_bytes entry_bytes
overflow_add-entry c = omega (arith, values_below, c.entry_at-entry.ensures, c.requires)

pub put_word-requires-2 : goal.put_word-requires-2
unfolding place row_bytes entry_bytes
put_word-requires-2 c = omega (arith, c.entry_at-entry.ensures, c.requires, c.put_word.auto.d)

pub returns : goal.returns
returns c = two_words _ _ _ _ _ _ _ _ c.entry_at-entry.ensures c.put_word.ensures c.put_word-2.ensures
