-- The loop's invariant: entering the rows left makes of the table what entering all makes of the first.
use Rattle.std.proofs.Common.{◌≡◌, ◌-◌, length}
use Rattle.name_index.specs.Items.{link_rows}
use Rattle.name_index.proofs.items.link_rows.Given as goal

abbrev pub invariant-loop-row : goal.invariant-loop-row
invariant-loop-row l = (length l.table ≡ length l.initial.table) × (link_rows l.table l.row (l.rows - l.row) ≡ link_rows l.initial.table 0 l.rows)
