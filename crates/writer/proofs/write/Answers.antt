use Rattle.model.specs.Limits.{max_values, max_nesting}
use Rattle.heap.specs.Unfold.{areas_of, unfolded}
use Rattle.writer.proofs.Whole.{whole}
use Rattle.writer.proofs.write.Goals as goal

pub returns : goal.returns
unfolding max_nesting max_values
returns c = whole (unfolded (areas_of c.args.areas) max_nesting c.args.h) c.args.output.now c.write_value-reached.new.output c.write_value-reached.result c.fitted-size.result c.write_value-reached.ensures.writes c.write_value-reached.auto.output c.fitted-size.ensures c.unwrap_or.result c.unwrap_or.ensures c.clear_from.ensures
