-- A value, an array or object, and all its parts call one another with one level less; the order of the functions at one depth is in the measure.
-- The loop's invariant is Loop's: whatever is written of the rest, the whole is written as that with what was passed in front.
use Prim.Native.Nat.{◌+◌, ◌*◌}
use Rattle.heap.specs.Unfold.{areas_of}
use Rattle.writer.proofs.Loop.{PartsInv}
use Rattle.writer.proofs.value.+write_compound_write_parts_write_value.Given as goal

abbrev pub decreases-write_compound : goal.decreases-write_compound
decreases-write_compound l = 3 * l.deep + 1

abbrev pub decreases-write_parts : goal.decreases-write_parts
decreases-write_parts l = 3 * l.deep + 3

abbrev pub decreases-write_value : goal.decreases-write_value
decreases-write_value l = 3 * l.deep + 2

abbrev pub invariant-write_parts-loop-rest : goal.invariant-write_parts-loop-rest
invariant-write_parts-loop-rest l = PartsInv (areas_of l.areas) l.initial.rest l.deep l.initial.here.at l.initial.here.left l.initial.output l.rest l.comma l.here.at l.here.left l.output

abbrev pub decreases-write_parts-loop-rest : goal.decreases-write_parts-loop-rest
decreases-write_parts-loop-rest l = l.rest.count
