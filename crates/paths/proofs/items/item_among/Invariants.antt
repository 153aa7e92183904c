use Rattle.std.proofs.Common.{◌≡◌, ◌-◌}
use Rattle.table.specs.Placed.{row_after}
use Rattle.paths.proofs.items.item_among.Given as goal

abbrev pub invariant-loop : goal.invariant-loop
invariant-loop l = row_after l.table l.fn.q.first l.at ≡ row_after l.table l.row (l.at - l.counter)
