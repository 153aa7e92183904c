use Rattle.std.proofs.Common.{◌≡◌, ◌-◌}
use Rattle.paths.specs.Contract.{row_named}
use Rattle.paths.proofs.members.row_among.Given as goal

abbrev pub invariant-loop : goal.invariant-loop
invariant-loop l = row_named l.text.table.now l.text.strings.now l.name l.fn.q.first l.fn.q.count ≡ row_named l.text.table.now l.text.strings.now l.name l.row (l.fn.q.count - l.counter)
