use lib.ListN.{length-take}
use native.Mathlib.Omega.{arith}
use Rattle.model.specs.Bytes.{ascii}
use Rattle.octets.specs.Laws.Fragment.{end_inside}
use Rattle.type_check.proofs.Paths.{no_fragment, a_fragment}
use Rattle.type_check.proofs.env.lambda_types.Goals as goal

pub returns-then-n-eq0 : goal.returns-then-n-eq0
returns-then-n-eq0 c = no_fragment c.args.path.now c.args.current c.args.accumulator c.if-n-eq0.true c.only.ensures

pub slice_bounds-first-end : goal.slice_bounds-first-end
slice_bounds-first-end c = simp length-take (omega (arith, c.fragment_end-end.ensures, end_inside (ascii ".") c.args.path.now 0 (omega arith)))

pub returns-then-same : goal.returns-then-same
returns-then-same c = a_fragment c.args.path.now c.args.current c.args.accumulator c.if-n-eq0.false c.fragment_end-end.ensures (rw (← c.same.ensures, c.if-same.true) c.part_types.ensures)

pub returns-then-same-2 : goal.returns-then-same-2
returns-then-same-2 c = a_fragment c.args.path.now c.args.current c.args.accumulator c.if-n-eq0.false c.fragment_end-end.ensures (rw (← c.same.ensures, c.if-same.false, ← c.same-2.ensures, c.if-same-2.true) c.part_types-then-same-2.ensures)

pub returns : goal.returns
returns c = a_fragment c.args.path.now c.args.current c.args.accumulator c.if-n-eq0.false c.fragment_end-end.ensures (rw (← c.same.ensures, c.if-same.false, ← c.same-2.ensures, c.if-same-2.false) c.only-2.ensures)
