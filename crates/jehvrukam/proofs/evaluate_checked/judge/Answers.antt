use mathlib.Core.Path.{refl}
use Rattle.pipeline.specs.Laws.LongAreas.{check_long}
use Rattle.pipeline.specs.Laws.Stages.{given_on}
use Rattle.jehvrukam.proofs.CheckedJudging.{after_check, check_stops}
use Rattle.jehvrukam.proofs.evaluate_checked.judge.Goals as goal

pub returns-in_err-types : goal.returns-in_err-types
returns-in_err-types c = check_stops c.args.record_text.now c.args.limit _ _ _ _ c.args.record_table.now c.args.record_strings.now c.args.cells.now c.args.output.now (after_check c.in_err-types.was (check_long _ _ c.requires.0 c.requires.1 c.check_texts.ensures) (record { first = c.check_texts.auto.rule_table; second = c.check_texts.auto.rule_strings }) (record { first = c.check_texts.auto.sheet_table; second = c.check_texts.auto.sheet_strings })) refl (given_on _ c.from_residual.ensures.1)

pub run_checked-requires : goal.run_checked-requires
run_checked-requires c = (after_check c.in_ok-types.was (check_long _ _ c.requires.0 c.requires.1 c.check_texts.ensures) (record { first = c.check_texts.auto.rule_table; second = c.check_texts.auto.rule_strings }) (record { first = c.check_texts.auto.sheet_table; second = c.check_texts.auto.sheet_strings }), c.requires.2, c.requires.3)

pub returns : goal.returns
returns c = c.run_checked.ensures.is (after_check c.in_ok-types.was (check_long _ _ c.requires.0 c.requires.1 c.check_texts.ensures) (record { first = c.check_texts.auto.rule_table; second = c.check_texts.auto.rule_strings }) (record { first = c.check_texts.auto.sheet_table; second = c.check_texts.auto.sheet_strings }))
