use Rattle.pipeline.specs.Laws.LongAreas.{text_long, rule_long}
use Rattle.pipeline.specs.Laws.Stages.{given_on}
use Rattle.jehvrukam.proofs.Judging.{rule_stops, record_stops, rule_marked, record_indexed, run_ready, judged}
use Rattle.jehvrukam.proofs.evaluate.judge.Goals as goal

pub returns-in_err-read_rule : goal.returns-in_err-read_rule
returns-in_err-read_rule c = rule_stops c.args.rule_text.now c.args.record_text.now c.args.limit c.args.rule_table.now c.args.rule_strings.now c.args.record_table.now c.args.record_strings.now c.args.cells.now c.args.output.now (rule_long c.requires.0 c.read_rule.ensures) c.in_err-read_rule.was (given_on _ c.from_residual.ensures.1) (record { first = c.read_rule.auto.table; second = c.read_rule.auto.strings })

pub returns-in_err-read_text : goal.returns-in_err-read_text
returns-in_err-read_text c = record_stops c.args.rule_text.now c.args.record_text.now c.args.limit c.args.rule_table.now c.args.rule_strings.now c.args.record_table.now c.args.record_strings.now c.args.cells.now c.args.output.now (rule_long c.requires.0 c.read_rule.ensures) c.in_ok-read_rule.was (text_long c.requires.1 c.read_text.ensures) (record { first = c.read_rule.auto.table; second = c.read_rule.auto.strings }) (record { first = c.read_text.auto.table; second = c.read_text.auto.strings }) c.in_err-read_text.was (given_on _ c.from_residual-in_err-read_text.ensures.1)

pub invariant_of-rule : goal.invariant_of-rule
invariant_of-rule c = record { marked = rule_marked c.args.rule_text.now c.args.record_text.now c.args.limit c.args.rule_table.now c.args.rule_strings.now c.args.record_table.now c.args.record_strings.now c.args.cells.now c.args.output.now (rule_long c.requires.0 c.read_rule.ensures) c.in_ok-read_rule.was (text_long c.requires.1 c.read_text.ensures) (record { first = c.read_rule.auto.table; second = c.read_rule.auto.strings }) (record { first = c.read_text.auto.table; second = c.read_text.auto.strings }) c.in_ok-read_text.was }

pub invariant_of-record : goal.invariant_of-record
invariant_of-record c = record { indexed = record_indexed c.args.rule_text.now c.args.record_text.now c.args.limit c.args.rule_table.now c.args.rule_strings.now c.args.record_table.now c.args.record_strings.now c.args.cells.now c.args.output.now (rule_long c.requires.0 c.read_rule.ensures) c.in_ok-read_rule.was (text_long c.requires.1 c.read_text.ensures) (record { first = c.read_rule.auto.table; second = c.read_rule.auto.strings }) (record { first = c.read_text.auto.table; second = c.read_text.auto.strings }) c.in_ok-read_text.was }

pub evaluate-requires : goal.evaluate-requires
evaluate-requires c = run_ready c.args.rule_text.now c.args.record_text.now c.args.limit c.args.rule_table.now c.args.rule_strings.now c.args.record_table.now c.args.record_strings.now c.args.cells.now c.args.output.now (rule_long c.requires.0 c.read_rule.ensures) c.in_ok-read_rule.was (text_long c.requires.1 c.read_text.ensures) (record { first = c.read_rule.auto.table; second = c.read_rule.auto.strings }) (record { first = c.read_text.auto.table; second = c.read_text.auto.strings }) c.in_ok-read_text.was c.requires.2

pub returns : goal.returns
returns c = judged c.args.rule_text.now c.args.record_text.now c.args.limit c.args.rule_table.now c.args.rule_strings.now c.args.record_table.now c.args.record_strings.now c.args.cells.now c.args.output.now (rule_long c.requires.0 c.read_rule.ensures) c.in_ok-read_rule.was (text_long c.requires.1 c.read_text.ensures) (record { first = c.read_rule.auto.table; second = c.read_rule.auto.strings }) (record { first = c.read_text.auto.table; second = c.read_text.auto.strings }) c.in_ok-read_text.was c.requires.2 c.evaluate.ensures (record { first = c.evaluate.auto.cells; second = c.evaluate.auto.output })
