-- The limit is the model's.
use Rattle.name_index.specs.Slots.{place}
use Rattle.model.proofs.Laws.Widths.{values_below}
use Rattle.model.specs.Limits.{max_values}
use Rattle.syntax.specs.Layout.{row_bytes, entry_bytes}
use mathlib.Core.Path.{refl}
use native.Mathlib.Omega.{arith}
use Rattle.name_index.proofs.entry_at.Goals as goal

pub overflow_mul-result-2 : goal.overflow_mul-result-2
overflow_mul-result-2 c = omega (arith, values_below, c.requires)

pub overflow_add-result : goal.overflow_add-result
overflow_add-result c = omega (arith, values_below, c.requires)

pub returns : goal.returns
unfolding place max_values row_bytes entry_bytes
returns c = refl
