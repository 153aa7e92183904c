use Rattle.pipeline.specs.Laws.Stages.{given_on}
use Rattle.pipeline.proofs.Checking.{fit_sheet_stops, record_stops, record_indexed, both_fit}
use Rattle.pipeline.proofs.fit.fit_texts.Goals as goal

pub returns-in_err-read_sheet : goal.returns-in_err-read_sheet
returns-in_err-read_sheet c = fit_sheet_stops _ _ c.read_sheet.ensures c.in_err-read_sheet.was (given_on _ c.from_residual.ensures.1)

pub returns-in_err-read_text : goal.returns-in_err-read_text
returns-in_err-read_text c = record_stops _ _ c.read_sheet.ensures c.in_ok-read_sheet.was c.read_text.ensures c.in_err-read_text.was (given_on _ c.from_residual-in_err-read_text.ensures.1)

pub invariant_of-text : goal.invariant_of-text
invariant_of-text c = record { indexed = record_indexed _ _ c.read_sheet.ensures c.in_ok-read_sheet.was c.read_text.ensures c.in_ok-read_text.was }

pub returns : goal.returns
returns c = both_fit _ _ c.read_sheet.ensures c.in_ok-read_sheet.was c.read_text.ensures c.in_ok-read_text.was c.fits.ensures
