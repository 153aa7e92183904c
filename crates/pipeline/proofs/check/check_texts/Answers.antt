use Rattle.pipeline.specs.Laws.Stages.{given_on}
use Rattle.pipeline.proofs.Checking.{rule_stops, sheet_stops, rule_marked, sheet_indexed, not_accepted, accepted}
use Rattle.pipeline.proofs.check.check_texts.Goals as goal

pub returns-in_err-read_rule : goal.returns-in_err-read_rule
returns-in_err-read_rule c = rule_stops _ _ c.read_rule.ensures c.in_err-read_rule.was (given_on _ c.from_residual.ensures.1)

pub returns-in_err-read_sheet : goal.returns-in_err-read_sheet
returns-in_err-read_sheet c = sheet_stops _ _ c.read_rule.ensures c.in_ok-read_rule.was c.read_sheet.ensures c.in_err-read_sheet.was (given_on _ c.from_residual-in_err-read_sheet.ensures.1)

pub invariant_of-rule : goal.invariant_of-rule
invariant_of-rule c = record { marked = rule_marked _ _ c.read_rule.ensures c.in_ok-read_rule.was c.read_sheet.ensures c.in_ok-read_sheet.was }

pub invariant_of-sheet : goal.invariant_of-sheet
invariant_of-sheet c = record { indexed = sheet_indexed _ _ c.read_rule.ensures c.in_ok-read_rule.was c.read_sheet.ensures c.in_ok-read_sheet.was }

pub returns-in_default : goal.returns-in_default
returns-in_default c = not_accepted _ _ c.read_rule.ensures c.in_ok-read_rule.was c.read_sheet.ensures c.in_ok-read_sheet.was c.check.ensures c.in_default.is c.from.ensures

pub returns : goal.returns
returns c = accepted _ _ c.read_rule.ensures c.in_ok-read_rule.was c.read_sheet.ensures c.in_ok-read_sheet.was c.check.ensures c.in-Some.is
