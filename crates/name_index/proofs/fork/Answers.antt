-- The link is changed first, then the new node's entry is made.
use mathlib.Core.Path.{ap}
use Rattle.name_index.specs.Slots.{side}
use Rattle.name_index.proofs.Table.{fork_left, fork_right}
use Rattle.model.proofs.Laws.Widths.{values_below, values_linked}
use native.Mathlib.Omega.{arith}
use Rattle.name_index.proofs.fork.Goals as goal

pub overflow_mul-row : goal.overflow_mul-row
overflow_mul-row c = omega (arith, values_below, c.requires.1)

pub overflow_add-row : goal.overflow_add-row
overflow_add-row c = omega (arith, values_below, c.requires.1)

pub overflow_add-word : goal.overflow_add-word
overflow_add-word c = omega (arith, values_below, c.requires.1, c.get_word-word.ensures.1)

pub overflow_mul-row-then-right : goal.overflow_mul-row-then-right
overflow_mul-row-then-right c = omega (arith, values_below, c.requires.1)

pub put_node-requires : goal.put_node-requires
put_node-requires c = (omega (arith, c.requires.0, c.put_word.auto.d), c.requires.1, c.requires.3, omega arith, omega (arith, values_linked, c.requires.1))

pub overflow_mul-row-else-right : goal.overflow_mul-row-else-right
overflow_mul-row-else-right c = omega (arith, values_below, c.requires.1)

pub put_node-requires-else-right : goal.put_node-requires-else-right
put_node-requires-else-right c = (omega (arith, c.requires.0, c.put_word.auto.d), c.requires.1, c.requires.3, omega (arith, values_linked, c.requires.1), omega arith)

pub returns-then-right : goal.returns-then-right
returns-then-right c = fork_right _ _ _ _ _ _ _ _ c.get_word-word.ensures.0 c.get_word-word.ensures.1 c.put_word.ensures (λ z. absurd (omega (arith, ap side c.if-right.true, z))) c.put_node.ensures

pub returns-else-right : goal.returns-else-right
returns-else-right c = fork_left _ _ _ _ _ _ _ _ c.get_word-word.ensures.0 c.get_word-word.ensures.1 c.put_word.ensures (ap side c.if-right.false) c.put_node-else-right.ensures
