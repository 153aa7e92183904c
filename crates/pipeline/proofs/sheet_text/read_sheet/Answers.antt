use Rattle.pipeline.specs.Laws.Stages.{given_on}
use Rattle.pipeline.proofs.Reading.{sheet_unread, no_sheet, a_sheet}
use Rattle.pipeline.proofs.sheet_text.read_sheet.Goals as goal

pub returns-in_err-read_text : goal.returns-in_err-read_text
returns-in_err-read_text c = sheet_unread c.read_text.ensures c.in_err-read_text.was (given_on _ c.from_residual.ensures.1)

pub returns-then-not-is_sheet : goal.returns-then-not-is_sheet
returns-then-not-is_sheet c = no_sheet c.read_text.ensures c.in_ok-read_text.was c.is_sheet.result c.is_sheet.ensures c.if-not-is_sheet.true c.from.ensures

pub returns : goal.returns
returns c = a_sheet c.read_text.ensures c.in_ok-read_text.was c.is_sheet.result c.is_sheet.ensures c.if-not-is_sheet.false
