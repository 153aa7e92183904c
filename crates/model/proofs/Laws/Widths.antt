-- Widths: what the laws and proofs know of the limits. It is computed from their digits here and nowhere else: a release that raises a limit
-- (02, P12) has these facts checked again, and no other proof names its digits.
use Rattle.std.specs.Prelude.{ℕ, ◌+◌, ◌*◌, ◌≤◌, ◌<◌}
use Rattle.std.proofs.Common.{arith}
use Rattle.model.specs.Limits.{max_text_bytes, max_values, max_nesting, max_steps, heap_cells}

-- ---- places and counts of a text have room in a row, and those of the heap in a cell: 24 bits for a size or a count
pub text_below : max_text_bytes < 16777216
unfolding max_text_bytes
text_below = omega arith

pub values_below : max_values < 16777216
unfolding max_values
values_below = omega arith

-- A link of the index of names has 17 bits.
pub values_linked : 2 * max_values ≤ 131072
unfolding max_values
values_linked = omega arith

pub cells_below : heap_cells < 16777216
unfolding heap_cells
cells_below = omega arith

-- Nesting has no field: it is counted in a machine's number.
pub nesting_below : max_nesting < 16777216
unfolding max_nesting
nesting_below = omega arith

pub text_small : {n : ℕ} → n ≤ max_text_bytes → n < 16777216
text_small h = omega (arith, text_below)

pub values_small : {n : ℕ} → n ≤ max_values → n < 16777216
values_small h = omega (arith, values_below)

-- ---- the limits beside each other
-- Two cells for each step, and for one step more: that of the rule around the whole one.
pub steps_have_cells : 2 * max_steps + 2 ≤ heap_cells
unfolding max_steps heap_cells
steps_have_cells = omega arith

-- An array of one value more than a text may have, each of one byte, is no over-long text.
pub values_have_bytes : 2 * max_values < max_text_bytes
unfolding max_values max_text_bytes
values_have_bytes = omega arith

-- An array of one item is within the limits.
pub two_values : 2 ≤ max_values
unfolding max_values
two_values = omega arith

pub one_deep : 1 ≤ max_nesting
unfolding max_nesting
one_deep = omega arith
