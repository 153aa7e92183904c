use Rattle.sheet.proofs.Listing.{none_named, row_listed}
use Rattle.sheet.proofs.listed.types_among.Goals as goal

pub returns-in-None : goal.returns-in-None
returns-in-None c = none_named c.args.sheet.table.now c.args.sheet.strings.now c.args.path.now c.args.q (rw c.in-None.is at c.row_named-found.ensures) c.any_of_record.ensures

pub returns-in-Some : goal.returns-in-Some
returns-in-Some c = row_listed c.args.sheet.table.now c.args.sheet.strings.now c.args.path.now c.args.q (rw c.in-Some.is at c.row_named-found.ensures) c.types_at.ensures
