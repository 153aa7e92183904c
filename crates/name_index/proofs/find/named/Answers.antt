-- The row says where its name lies.
use Rattle.name_index.proofs.Found.{named_slot}
use Rattle.name_index.proofs.find.named.Goals as goal

pub returns : goal.returns
returns c = named_slot _ _ _ _ c.requires c.name_at.ensures c.bytes_of-member.ensures c.same.ensures c.then_some.ensures
