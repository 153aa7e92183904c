use native.Mathlib.Omega.{arith}
use Rattle.model.specs.Bytes.{ascii}
use Rattle.octets.specs.Laws.Fragment.{end_inside}
use Rattle.paths.specs.Laws.Loops.{begins, goes_on}
use Rattle.op_lookup.proofs.Walk.{walk_ends, walk_on, walk_record}
use Rattle.op_lookup.proofs.value_at.Goals as goal

pub loop-at-init : goal.loop-at-init
loop-at-init c = begins

pub returns-in-Some : goal.returns-in-Some
returns-in-Some c = c.loop-at.invariant.goes _ (walk_record c.args.path.now c.loop-at.at (rw c.in-Some.is at c.place_of.ensures) c.find.ensures c.from.ensures)

pub slice_bounds-part-count : goal.slice_bounds-part-count
slice_bounds-part-count c = omega (arith, c.fragment_end-end.ensures)

pub overflow_add-at : goal.overflow_add-at
overflow_add-at c = omega (arith, c.fragment_end-end.ensures, end_inside (ascii ".") c.args.path.now c.loop-at.at (omega arith))

pub loop-at-smaller : goal.loop-at-smaller
loop-at-smaller c = omega (arith, c.fragment_end-end.ensures)

pub loop-at-preserved : goal.loop-at-preserved
loop-at-preserved c = goes_on c.loop-at.invariant (walk_on c.args.path.now c.loop-at.at (omega arith) c.fragment_end-end.ensures (rw c.in_default.is at c.place_of.ensures) c.part-h.ensures)

pub returns : goal.returns
returns c = c.loop-at.invariant.goes _ (walk_ends c.args.path.now c.loop-at.at (omega arith))

pub slice_bounds-part-end : goal.slice_bounds-part-end
slice_bounds-part-end c = omega (arith, c.fragment_end-end.ensures, end_inside (ascii ".") c.args.path.now c.loop-at.at (omega arith))
