use Rattle.pipeline.specs.Laws.Stages.{given_on}
use Rattle.pipeline.proofs.Reading.{rule_unread, no_rule, a_rule}
use Rattle.pipeline.proofs.text.read_rule.Goals as goal

pub returns-in_err-read_text : goal.returns-in_err-read_text
returns-in_err-read_text c = rule_unread c.read_text.ensures c.in_err-read_text.was (given_on _ c.from_residual.ensures.1)

pub returns-then-not-is_rule : goal.returns-then-not-is_rule
returns-then-not-is_rule c = no_rule c.read_text.ensures c.in_ok-read_text.was c.is_rule.result c.is_rule.ensures c.if-not-is_rule.true c.from.ensures

pub returns : goal.returns
returns c = a_rule c.read_text.ensures c.in_ok-read_text.was c.is_rule.result c.is_rule.ensures c.if-not-is_rule.false
