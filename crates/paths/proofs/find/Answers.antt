use mathlib.Core.Path.{refl, ◌∙◌}
use native.Mathlib.Omega.{arith}
use Rattle.model.specs.Bytes.{ascii}
use Rattle.octets.specs.Laws.Fragment.{end_inside}
use Rattle.paths.proofs.Denoted.{leads_along}
use Rattle.paths.proofs.Walk.{walk_ends, walk_on}
use Rattle.paths.proofs.find.Goals as goal

pub loop-at-init : goal.loop-at-init
loop-at-init c = refl

pub fragment_end-end-requires : goal.fragment_end-end-requires
fragment_end-end-requires c = tt

pub slice_bounds-part-count : goal.slice_bounds-part-count
slice_bounds-part-count c = omega (arith, c.fragment_end-end.ensures)

pub slice_bounds-part-end : goal.slice_bounds-part-end
slice_bounds-part-end c = omega (arith, c.fragment_end-end.ensures, end_inside (ascii ".") c.args.path.now c.loop-at.at (omega arith))

pub overflow_add-at : goal.overflow_add-at
overflow_add-at c = omega (arith, c.fragment_end-end.ensures, end_inside (ascii ".") c.args.path.now c.loop-at.at (omega arith))

pub loop-at-smaller : goal.loop-at-smaller
loop-at-smaller c = omega (arith, c.fragment_end-end.ensures)

pub loop-at-preserved : goal.loop-at-preserved
loop-at-preserved c = walk_on c.args.text.table.now c.args.text.strings.now c.args.path.now c.loop-at.at c.loop-at.n (omega arith) c.fragment_end-end.ensures c.part-n.ensures ∙ c.loop-at.invariant

pub returns : goal.returns
returns c = leads_along (walk_ends c.args.text.table.now c.args.text.strings.now c.args.path.now c.loop-at.at c.loop-at.n (omega arith) ∙ c.loop-at.invariant)
