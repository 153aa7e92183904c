use native.Mathlib.Omega.{arith}
use Rattle.model.proofs.Laws.Widths.{text_below}
use Rattle.model.specs.Limits.{max_text_bytes}
use Rattle.heap.specs.Unfold.{areas_of, unfolded}
use Rattle.writer.proofs.Values.{scalarlike, none_left, too_long, too_deep, scalar_value, compound_over, compound_closes, writes_short}
use Rattle.writer.proofs.Loop.{parts_done, parts_stop, parts_next}
use Rattle.writer.proofs.value.+write_compound_write_parts_write_value.Goals as goal

pub write_compound-returns-then-deep-eq0 : goal.write_compound-returns-then-deep-eq0
write_compound-returns-then-deep-eq0 t c = record { writes = too_deep (areas_of c.args.areas) c.args.p c.if-deep-eq0.true }

pub write_compound-overflow_add-inner : goal.write_compound-overflow_add-inner
write_compound-overflow_add-inner t c = record { fits = omega (arith, text_below, c.requires.0) }

pub write_compound-returns-in_err-end : goal.write_compound-returns-in_err-end
write_compound-returns-in_err-end t c = rw c.from_residual.ensures (compound_over (areas_of c.args.areas) c.args.p c.args.deep c.args.from.left c.args.from.at (omega (arith, c.if-deep-eq0.false)) c.requires.1 c.args.output.now c.put_byte.new.output c.opening-open.result c.opening-open.ensures c.put_byte.ensures c.write_parts.result c.write_parts.ensures c.in_err-end.was)

pub write_compound-overflow_add-end : goal.write_compound-overflow_add-end
write_compound-overflow_add-end t c = record { fits = omega (arith, text_below, writes_short _ c.write_parts.ensures.writes c.in_ok-end.was) }

pub write_compound-returns : goal.write_compound-returns
write_compound-returns t c = compound_closes (areas_of c.args.areas) c.args.p c.args.deep c.args.from.left c.args.from.at (omega (arith, c.if-deep-eq0.false)) c.requires.1 c.args.output.now c.put_byte.new.output c.opening-open.result c.opening-open.ensures c.put_byte.ensures c.write_parts.result c.write_parts.ensures c.in_ok-end.end.at c.in_ok-end.end.left c.up_to.result c.in_ok-end.was c.put_byte-2.ensures c.up_to.ensures

pub write_parts-returns-in_err-here : goal.write_parts-returns-in_err-here
write_parts-returns-in_err-here t c = rw c.from_residual.ensures (parts_stop c.loop-rest.invariant (omega (arith, c.loop-rest-test.true)) c.put_front.ensures c.head-part.result c.head-part.ensures c.write_value.result c.write_value.ensures c.in_err-here.was)

pub write_parts-loop-rest-preserved : goal.write_parts-loop-rest-preserved
write_parts-loop-rest-preserved t c = parts_next c.loop-rest.invariant (omega (arith, c.loop-rest-test.true)) c.put_front.ensures c.head-part.result c.head-part.ensures c.write_value.result c.write_value.ensures c.in_ok-here.here.at c.in_ok-here.here.left c.tail-rest.result c.in_ok-here.was c.tail-rest.ensures (omega (arith, c.write_value.auto.output, c.put_front.auto.output, c.loop-rest.invariant.size))

pub write_parts-returns : goal.write_parts-returns
write_parts-returns t c = parts_done c.loop-rest.invariant c.up_to.result (omega (arith, c.loop-rest-test.false)) c.up_to.ensures

pub write_value-returns-then-from-eq0 : goal.write_value-returns-then-from-eq0
write_value-returns-then-from-eq0 t c = record { writes = none_left (unfolded (areas_of c.args.areas) c.args.deep c.args.h) c.if-from-eq0.true }

pub write_value-returns-then-from-gt-MAX_TEXT_BYTES : goal.write_value-returns-then-from-gt-MAX_TEXT_BYTES
unfolding max_text_bytes
write_value-returns-then-from-gt-MAX_TEXT_BYTES t c = record { writes = too_long (unfolded (areas_of c.args.areas) c.args.deep c.args.h) c.if-from-gt-MAX_TEXT_BYTES.true }

pub write_value-put_scalar-end-requires : goal.write_value-put_scalar-end-requires
unfolding max_text_bytes
write_value-put_scalar-end-requires t c = omega (arith, c.if-from-gt-MAX_TEXT_BYTES.false)

pub write_value-returns-in_default : goal.write_value-returns-in_default
write_value-returns-in_default t c = scalar_value (areas_of c.args.areas) c.args.deep c.up_to.result (scalarlike c.args.h c.in_default.not-Compound) (omega (arith, c.if-from-eq0.false)) c.put_scalar-end.ensures c.up_to.ensures

pub write_value-write_compound-requires : goal.write_value-write_compound-requires
unfolding max_text_bytes
write_value-write_compound-requires t c = (omega arith, (omega (arith, c.if-from-gt-MAX_TEXT_BYTES.false), omega (arith, c.if-from-eq0.false)))
