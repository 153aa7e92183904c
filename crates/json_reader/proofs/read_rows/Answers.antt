-- Each way out is a law of All.
use native.Mathlib.Omega.{arith}
use Rattle.model.proofs.Laws.Widths.{values_below}
use Rattle.model.specs.Limits.{max_text_bytes, max_values}
use Rattle.syntax.specs.Layout.{row_bytes, entry_bytes}
use Rattle.json_reader.proofs.All.{rows_few, law_short_table, law_short_strings, law_refused, law_done}
use Rattle.json_reader.proofs.read_rows.Goals.{then-table-lt-TABLE_BYTES-via-then-table-lt-TABLE_BYTES, then-table-lt-TABLE_BYTES-via-else-table-lt-TABLE_BYTES+then-strings-lt-STRINGS_BYTES}
use Rattle.json_reader.proofs.read_rows.Goals as goal

pub returns-then-table-lt-TABLE_BYTES : goal.returns-then-table-lt-TABLE_BYTES
unfolding max_values max_text_bytes row_bytes entry_bytes
returns-then-table-lt-TABLE_BYTES c =
    elim c.then-table-lt-TABLE_BYTES.branch [
      | then-table-lt-TABLE_BYTES-via-then-table-lt-TABLE_BYTES w ↦ law_short_table w.if-table-lt-TABLE_BYTES.true
      | then-table-lt-TABLE_BYTES-via-else-table-lt-TABLE_BYTES+then-strings-lt-STRINGS_BYTES w ↦ law_short_strings w.if-table-lt-TABLE_BYTES.false w.if-strings-lt-STRINGS_BYTES.true
    ]

pub read_text-requires : goal.read_text-requires
unfolding max_values max_text_bytes row_bytes entry_bytes
read_text-requires c = (c.if-table-lt-TABLE_BYTES.false, c.if-strings-lt-STRINGS_BYTES.false)

pub overflow_mul-last : goal.overflow_mul-last
overflow_mul-last c = omega (arith, values_below, rows_few c.in-Ok.ensures)

pub returns-in-Err : goal.returns-in-Err
unfolding max_values max_text_bytes row_bytes entry_bytes
returns-in-Err c = law_refused c.if-table-lt-TABLE_BYTES.false c.if-strings-lt-STRINGS_BYTES.false c.read_text.auto.table c.read_text.auto.strings c.in-Err.ensures c.clear_from.ensures c.clear_from-in-Err.ensures

pub returns-in-Ok : goal.returns-in-Ok
unfolding max_values max_text_bytes row_bytes entry_bytes
returns-in-Ok c = law_done c.if-table-lt-TABLE_BYTES.false c.if-strings-lt-STRINGS_BYTES.false c.read_text.auto.table c.read_text.auto.strings c.in-Ok.ensures c.clear_between.ensures c.clear_from-in-Ok.ensures
