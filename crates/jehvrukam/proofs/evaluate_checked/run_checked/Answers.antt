use mathlib.Core.Path.{refl}
use Rattle.pipeline.specs.Laws.LongAreas.{text_long}
use Rattle.pipeline.specs.Laws.Stages.{given_on}
use Rattle.jehvrukam.proofs.CheckedJudging.{record_stops, rule_marked, record_indexed, run_ready, judged}
use Rattle.jehvrukam.proofs.evaluate_checked.run_checked.Goals as goal

pub returns-in_err-read_text : goal.returns-in_err-read_text
returns-in_err-read_text c = record { is = λ k. record_stops c.args.record_text.now c.args.limit c.args.rule_table.now c.args.rule_strings.now c.args.sheet_table.now c.args.sheet_strings.now c.args.record_table.now c.args.record_strings.now c.args.cells.now c.args.output.now k refl (text_long c.requires.1 c.read_text.ensures) (record { first = c.read_text.auto.table; second = c.read_text.auto.strings }) c.in_err-read_text.was (given_on _ c.from_residual.ensures.1) }

pub invariant_of-rule : goal.invariant_of-rule
invariant_of-rule c = record { marked = rule_marked c.args.record_text.now c.args.limit c.args.rule_table.now c.args.rule_strings.now c.args.sheet_table.now c.args.sheet_strings.now c.args.record_table.now c.args.record_strings.now c.args.cells.now c.args.output.now c.requires.0 refl (text_long c.requires.1 c.read_text.ensures) (record { first = c.read_text.auto.table; second = c.read_text.auto.strings }) c.in_ok-read_text.was }

pub invariant_of-record : goal.invariant_of-record
invariant_of-record c = record { indexed = record_indexed c.args.record_text.now c.args.limit c.args.rule_table.now c.args.rule_strings.now c.args.sheet_table.now c.args.sheet_strings.now c.args.record_table.now c.args.record_strings.now c.args.cells.now c.args.output.now c.requires.0 refl (text_long c.requires.1 c.read_text.ensures) (record { first = c.read_text.auto.table; second = c.read_text.auto.strings }) c.in_ok-read_text.was }

pub evaluate-evaluated-requires : goal.evaluate-evaluated-requires
evaluate-evaluated-requires c = run_ready c.args.record_text.now c.args.limit c.args.rule_table.now c.args.rule_strings.now c.args.sheet_table.now c.args.sheet_strings.now c.args.record_table.now c.args.record_strings.now c.args.cells.now c.args.output.now c.requires.0 refl (text_long c.requires.1 c.read_text.ensures) (record { first = c.read_text.auto.table; second = c.read_text.auto.strings }) c.in_ok-read_text.was c.requires.2

pub returns : goal.returns
returns c = record { is = λ k. judged c.args.record_text.now c.args.limit c.args.rule_table.now c.args.rule_strings.now c.args.sheet_table.now c.args.sheet_strings.now c.args.record_table.now c.args.record_strings.now c.args.cells.now c.args.output.now k refl (text_long c.requires.1 c.read_text.ensures) (record { first = c.read_text.auto.table; second = c.read_text.auto.strings }) c.in_ok-read_text.was c.requires.2 c.fits-fits.ensures c.evaluate-evaluated.ensures (record { first = c.evaluate-evaluated.auto.cells; second = c.evaluate-evaluated.auto.output }) }
