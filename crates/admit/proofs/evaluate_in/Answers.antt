use borrow.Author.Rules.{rules}
use Rattle.model.specs.Limits.{max_text_bytes, max_values, heap_cells}
use Rattle.syntax.specs.Layout.{row_bytes, entry_bytes}
use Rattle.heap.specs.Cells.{cell_bytes}
use Rattle.jehvrukam.specs.Contract.{numbers_of}
use Rattle.admit.specs.Limits.{step_limit}
use Rattle.admit.proofs.Entry.{Lent, entry_answers}
use Rattle.admit.proofs.evaluate_in.Goals as goal

pub returns : goal.returns
unfolding step_limit max_text_bytes max_values heap_cells row_bytes entry_bytes cell_bytes
returns c =
    let lent : Lent c.args.rule_table.now c.args.rule_strings.now c.args.record_table.now c.args.record_strings.now c.args.cells.now c.args.output.now = record {
      rule_rows = search rules;
      rule_text_lem = search rules;
      record_rows = search rules;
      record_text_lem = search rules;
      heap = search rules;
      room = c.requires;
    } in
    entry_answers c.args.rule.now c.args.«record».now _ (numbers_of 0 0 0 0) lent (search rules) c.jehvrukam_evaluate-refusal.ensures
