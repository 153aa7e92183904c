use Rattle.model.specs.Limits.{heap_cells, max_nesting}
use Rattle.eval.proofs.Whole.{whole_task, whole_operating, left_less, left_over, whole_stops, whole_gives}
use Rattle.eval.proofs.value.Goals as goal

pub operands-requires : goal.operands-requires
unfolding heap_cells max_nesting
operands-requires c = whole_operating _ c.requires (whole_task _ c.args.limit c.load.ensures)

pub overflow_sub-result : goal.overflow_sub-result
unfolding heap_cells max_nesting
overflow_sub-result c = left_over _ (whole_task _ c.args.limit c.load.ensures) c.requires c.operands.ensures c.in-Ok.given c.in-Ok.is

pub overflow_sub-result-in-Err : goal.overflow_sub-result-in-Err
unfolding heap_cells max_nesting
overflow_sub-result-in-Err c = left_less _ (whole_task _ c.args.limit c.load.ensures) c.requires c.operands.ensures c.in-Err.denied c.in-Err.is

pub returns-in-Ok : goal.returns-in-Ok
unfolding heap_cells max_nesting
returns-in-Ok c = whole_gives _ (whole_task _ c.args.limit c.load.ensures) c.requires c.operands.ensures c.in-Ok.given c.in-Ok.is

pub returns-in-Err : goal.returns-in-Err
unfolding heap_cells max_nesting
returns-in-Err c = whole_stops _ (whole_task _ c.args.limit c.load.ensures) c.requires c.operands.ensures c.in-Err.denied c.in-Err.is
