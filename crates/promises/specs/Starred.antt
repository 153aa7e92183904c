-- Starred: that the rows hold. Statements only; the proofs are in Laws.Rows.
use Rattle.model.specs.Limits.{max_steps}
use Rattle.jehvrukam.specs.Evaluate.{Areas, Numbers}
use Rattle.promises.specs.Rows.{Lent, called, reduce_text, Comes, StarredRows}
use Rattle.promises.specs.Laws.Rows as RowsLaws

-- "Rows marked * are proved as a single statement about the definitions."
pub starred_rows : (a : Areas) (n : Numbers) → Lent max_steps a → StarredRows a n
starred_rows = RowsLaws.starred_rows

-- "With limit 15 the reduce row still gives 6; with 14 it gives 10 and reports 14." With limit 15.
pub reduce_at_15 : (a : Areas) (n : Numbers) → Lent 15 a → Comes (called reduce_text 15 a n) 0 0 0 15 1 "6"
reduce_at_15 = RowsLaws.reduce_at_15

-- With limit 14.
pub reduce_at_14 : (a : Areas) (n : Numbers) → Lent 14 a → Comes (called reduce_text 14 a n) 10 0 0 14 0 ""
reduce_at_14 = RowsLaws.reduce_at_14
