-- The row says where its name lies.
use Rattle.name_index.proofs.Steps.{told_leaf, told_ranked}
use Rattle.name_index.proofs.compare.Goals as goal

pub returns : goal.returns
returns c = (told_leaf _ _ _ _ c.critical.result c.requires.0 c.name_at.ensures c.bytes_of.ensures c.critical.ensures, told_ranked _ _ c.critical.result c.critical.ensures)
