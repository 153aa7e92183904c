-- A search whose way down no rank stops ends at the leaf that decides.
use Rattle.name_index.proofs.Found.{finds_no_member, finds_outside, finds_short, finds}
use Rattle.model.specs.Limits.{max_values}
use Rattle.syntax.specs.Layout.{row_bytes, entry_bytes}
use native.Mathlib.Omega.{arith}
use Rattle.name_index.proofs.find.find.Goals as goal
use Rattle.name_index.proofs.find.find.Goals.{then-first-eq0-via-then-first-eq0, then-first-eq0-via-else-first-eq0+then-first-ge-MAX_VALUES, then-first-eq0-via-else-first-eq0+else-first-ge-MAX_VALUES+then-table-lt-TABLE_BYTES}

pub returns-then-first-eq0 : goal.returns-then-first-eq0
unfolding max_values row_bytes entry_bytes
returns-then-first-eq0 c = elim c.then-first-eq0.branch [
  | then-first-eq0-via-then-first-eq0 w ↦ finds_no_member w.if-first-eq0.true
  | then-first-eq0-via-else-first-eq0+then-first-ge-MAX_VALUES w ↦ finds_outside w.if-first-ge-MAX_VALUES.true
  | then-first-eq0-via-else-first-eq0+else-first-ge-MAX_VALUES+then-table-lt-TABLE_BYTES w ↦ finds_short w.if-table-lt-TABLE_BYTES.true
]

pub descend-end-requires : goal.descend-end-requires
unfolding max_values row_bytes entry_bytes
descend-end-requires c = record { table = c.if-table-lt-TABLE_BYTES.false; order = omega (arith, c.if-first-eq0.false); below = omega arith }

pub named-requires : goal.named-requires
unfolding max_values row_bytes entry_bytes
named-requires c = c.if-table-lt-TABLE_BYTES.false

pub returns : goal.returns
unfolding max_values
returns c = finds c.descend-end.result (omega arith) c.descend-end.ensures c.named.ensures
