use Rattle.sheet.proofs.Fitting.{fits_entry_lem}
use Rattle.sheet.proofs.fit.entry_fits.Goals as goal

pub returns : goal.returns
returns c = fits_entry_lem c.node_at-whole.ensures c.find-value.ensures c.has_type.ensures
