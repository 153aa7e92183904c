-- Four words one after another make the row.
use native.Mathlib.Omega.{arith}
use Rattle.model.proofs.Laws.Widths.{text_below, values_below}
use Rattle.syntax.specs.Layout.{row_bytes, entry_bytes}
use Rattle.json_reader.proofs.Rows.{four_words}
use Rattle.json_reader.proofs.row.put_row.Goals as goal

pub overflow_mul-at : goal.overflow_mul-at
overflow_mul-at c = omega (arith, values_below)

pub overflow_mul-name : goal.overflow_mul-name
overflow_mul-name c = omega (arith, text_below)

pub overflow_add-kind : goal.overflow_add-kind
overflow_add-kind c = omega (arith, text_below)

pub put_word-requires : goal.put_word-requires
unfolding row_bytes entry_bytes
put_word-requires c = omega (arith, values_below)

pub overflow_add-at : goal.overflow_add-at
overflow_add-at c = omega (arith, values_below)

pub put_word-requires-2 : goal.put_word-requires-2
unfolding row_bytes entry_bytes
put_word-requires-2 c = omega (arith, values_below)

pub overflow_add-at-2 : goal.overflow_add-at-2
overflow_add-at-2 c = omega (arith, values_below)

pub put_word-requires-3 : goal.put_word-requires-3
unfolding row_bytes entry_bytes
put_word-requires-3 c = omega (arith, values_below)

pub overflow_add-at-3 : goal.overflow_add-at-3
overflow_add-at-3 c = omega (arith, values_below)

pub put_word-requires-4 : goal.put_word-requires-4
unfolding row_bytes entry_bytes
put_word-requires-4 c = omega (arith, values_below)

pub returns : goal.returns
unfolding row_bytes
returns c = record { is = four_words _ _ _ _ _ _ _ _ _ _ c.put_word.ensures c.put_word-2.ensures c.put_word-3.ensures c.put_word-4.ensures }
