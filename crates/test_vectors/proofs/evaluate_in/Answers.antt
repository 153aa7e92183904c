use borrow.Author.Rules.{rules}
use Rattle.model.specs.Limits.{max_text_bytes, max_values, heap_cells}
use Rattle.syntax.specs.Layout.{row_bytes, entry_bytes}
use Rattle.heap.specs.Cells.{cell_bytes}
use Rattle.test_vectors.proofs.Agreement.{Sized, entry_gives}
use Rattle.test_vectors.proofs.evaluate_in.Goals as goal

pub returns : goal.returns
unfolding max_text_bytes max_values heap_cells row_bytes entry_bytes cell_bytes
returns c =
    let sized : Sized c.args.rule_table.now c.args.rule_strings.now c.args.record_table.now c.args.record_strings.now c.args.cells.now = record {
      rule_rows = search rules;
      rule_text_lem = search rules;
      record_rows = search rules;
      record_text_lem = search rules;
      heap = search rules;
    } in
    entry_gives c.args.rule.now c.args.«record».now c.args.limit c.args.output.now sized c.jehvrukam_evaluate-refusal.ensures
