use Rattle.sheet.proofs.Listing.{lists_nothing, lists_for}
use Rattle.sheet.proofs.listed.types_for.Goals as goal

pub returns-in_default : goal.returns-in_default
returns-in_default c = lists_nothing c.node_at.ensures c.in_default.not-Object c.any_of_record.ensures

pub returns : goal.returns
returns c = lists_for c.node_at.ensures c.in-Object.is c.types_among.ensures
