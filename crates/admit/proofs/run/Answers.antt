use borrow.Author.Rules.{rules}
use Rattle.admit.proofs.Lines.{begins_counts}
use Rattle.admit.proofs.run.Goals as goal

pub slice_bounds-write_all-end-2 : goal.slice_bounds-write_all-end-2
slice_bounds-write_all-end-2 g c = begins_counts c.report-size.ensures
