-- Rows: the operands that a view tells of, one after the other.
use Prim.Native.Nat.{ℕ}
use Rattle.model.specs.Bytes.{Bytes}
use Rattle.model.specs.Rule.{Rules, no_rules, rule}
use Rattle.rule.specs.Holds.{HoldsAll}
use Rattle.rule.specs.Laws.Holds.{holds_parts}
use Rattle.table.specs.declared.node.Rows.{Rows}
use Rattle.eval.specs.Inner.{RowsHold, no_rows, row_rule}

pub rows_hold : {T A : Bytes} {deep : ℕ} (rs : Rules) (q : Rows) → HoldsAll T A deep q rs → RowsHold T A deep q.first rs
rows_hold no_rules q h = no_rows
rows_hold (rule r rs) q h = let p = holds_parts h in row_rule p.head (rows_hold rs _ p.rest)
