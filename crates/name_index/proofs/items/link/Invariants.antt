-- The loop's invariant: entering what is left makes of the table what entering all makes of the first.
use Rattle.std.proofs.Common.{◌≡◌, ◌-◌, ◌*◌, length}
use Rattle.name_index.specs.Items.{link_from}
use Rattle.name_index.proofs.items.link.Given as goal

abbrev pub invariant-loop : goal.invariant-loop
invariant-loop l = (length l.table ≡ length l.initial.table) × (link_from l.table l.row l.far (l.fn.q.count - l.counter * 2) ≡ link_from l.initial.table l.initial.row l.initial.far l.fn.q.count)
