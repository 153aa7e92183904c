use Rattle.sheet.proofs.Fitting.{fits_nothing, fits_all}
use Rattle.sheet.proofs.fit.fits.Goals as goal

pub returns-in_default : goal.returns-in_default
returns-in_default c = fits_nothing c.node_at.ensures c.in_default.not-Object

pub returns : goal.returns
returns c = fits_all c.node_at.ensures c.in-Object.is c.all_fit.ensures
