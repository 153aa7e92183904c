-- The way out where the text reads is a law of All.
use Rattle.model.specs.Limits.{max_values}
use Rattle.syntax.specs.Layout.{row_bytes}
use Rattle.json_reader.proofs.All.{law_cleared}
use Rattle.json_reader.proofs.read.Goals as goal

pub returns : goal.returns
unfolding max_values row_bytes
returns c = law_cleared c.in_ok-count.ensures c.clear_index.ensures
