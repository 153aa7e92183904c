-- A measure is the nesting that is left, three times, and the order of the functions at one depth: operands nest less deep.
-- The loop over the operands keeps: what is found for those that are left, after those that were gone through, is found for all.
use Prim.Native.Nat.{◌+◌, ◌*◌}
use Rattle.std.specs.Prelude.{Option}
use Rattle.type_check.specs.declared.operation.Operands.{Operands}
use Rattle.type_check.proofs.All.{Rest}
use Rattle.type_check.proofs.check.+find_find_all_find_if_find_reduce.Given as goal

abbrev pub decreases-find : goal.decreases-find
decreases-find l = 3 * l.s.deep

abbrev pub decreases-find_all : goal.decreases-find_all
decreases-find_all l = 3 * l.s.deep + 1

abbrev pub decreases-find_if : goal.decreases-find_if
decreases-find_if l = 3 * l.s.deep + 2

abbrev pub decreases-find_reduce : goal.decreases-find_reduce
decreases-find_reduce l = 3 * l.s.deep + 1

abbrev pub invariant-find_all-loop-rest : goal.invariant-find_all-loop-rest
invariant-find_all-loop-rest l = (r : Option Operands) → Rest l.rule.table.now l.rule.strings.now l.sheet.table.now l.sheet.strings.now l.s l.o l.rest r → Rest l.rule.table.now l.rule.strings.now l.sheet.table.now l.sheet.strings.now l.s l.initial.o l.initial.rest r

abbrev pub decreases-find_all-loop-rest : goal.decreases-find_all-loop-rest
decreases-find_all-loop-rest l = l.rest.count
