use borrow.Author.Tests.{eqb-true}
use Rattle.paths.proofs.Rows.{are_flat_lem, ends_after, placed_of}
use Rattle.paths.proofs.items.are_flat.Goals as goal

pub overflow_sub-q : goal.overflow_sub-q
overflow_sub-q c = (c.are_items.ensures c.if-are_items.true).after

pub overflow_sub-result : goal.overflow_sub-result
overflow_sub-result c = rw c.next_row.ensures (ends_after (placed_of c.args.text.indexed) (c.are_items.ensures c.if-are_items.true))

pub returns-then-are_items : goal.returns-then-are_items
returns-then-are_items c = λ e. are_flat_lem (placed_of c.args.text.indexed) (c.are_items.ensures c.if-are_items.true) c.next_row.ensures (eqb-true _ _ e)
