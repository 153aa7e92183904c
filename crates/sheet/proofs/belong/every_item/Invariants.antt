use Rattle.std.specs.Fn.{AnyResult}
use Rattle.std.specs.Prelude.{Bool, ◌≡◌}
use Rattle.table.specs.declared.node.Node.{Node}
use Rattle.sheet.specs.ByRows.{every_item}
use Rattle.sheet.proofs.belong.every_item.Given as goal

abbrev pub invariant-loop-rest : goal.invariant-loop-rest
invariant-loop-rest g l = (is : Node → Bool) → ((n : Node) → AnyResult g.F.Fn l.test (n, tt) (λ r. r ≡ is n)) → every_item is l.record_table l.rest ≡ every_item is l.record_table l.initial.rest

abbrev pub decreases-loop-rest : goal.decreases-loop-rest
decreases-loop-rest g l = l.rest.count
