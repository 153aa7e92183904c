use Rattle.op_lookup.proofs.Parts.{named_outside, named_past, named_at}
use Rattle.op_lookup.proofs.item_named.Goals as goal

pub returns-in_default : goal.returns-in_default
returns-in_default c = named_outside c.read_index.ensures c.in_default.not-Some

pub returns-then-at-p : goal.returns-then-at-p
returns-then-at-p c = named_past (rw c.in-Some.is at c.read_index.ensures) c.if-at-p.true

pub returns : goal.returns
returns c = named_at (rw c.in-Some.is at c.read_index.ensures) c.if-at-p.false c.cell_after.ensures
