use Rattle.type_check.proofs.All.{all_found, rest_done, rest_stops, rest_goes_on}
use Rattle.type_check.proofs.Three.{no_guard, if_found, no_operand, no_array, no_initial, no_lambda, reduce_found}
use Rattle.type_check.proofs.Views.{nests, literal_found, var_found, if_seen, and_seen, reduce_seen, apply_seen}
use Rattle.std.specs.Prelude.{None}
use native.Mathlib.Omega.{arith}
use Rattle.type_check.proofs.check.+find_find_all_find_if_find_reduce.Goals as goal

pub find-inner-s-requires : goal.find-inner-s-requires
find-inner-s-requires t c = nests c.view_at.ensures c.in-If.is

pub find-find_if-requires : goal.find-find_if-requires
find-find_if-requires t c = rw c.inner-s.ensures (omega (arith, nests c.view_at.ensures c.in-If.is), c.requires)

pub find-inner-s-requires-in-And : goal.find-inner-s-requires-in-And
find-inner-s-requires-in-And t c = nests c.view_at.ensures c.in-And.is

pub find-find_all-requires : goal.find-find_all-requires
find-find_all-requires t c = rw c.inner-s-in-And.ensures (omega (arith, nests c.view_at.ensures c.in-And.is), c.requires)

pub find-inner-s-requires-in-Reduce : goal.find-inner-s-requires-in-Reduce
find-inner-s-requires-in-Reduce t c = nests c.view_at.ensures c.in-Reduce.is

pub find-find_reduce-requires : goal.find-find_reduce-requires
find-find_reduce-requires t c = rw c.inner-s-in-Reduce.ensures (omega (arith, nests c.view_at.ensures c.in-Reduce.is), c.requires)

pub find-inner-s-requires-in-Apply : goal.find-inner-s-requires-in-Apply
find-inner-s-requires-in-Apply t c = nests c.view_at.ensures c.in-Apply.is

pub find-find_all-found-requires : goal.find-find_all-found-requires
find-find_all-found-requires t c = rw c.inner-s-in-Apply.ensures (omega (arith, nests c.view_at.ensures c.in-Apply.is), c.requires)

pub find-returns-in-Literal : goal.find-returns-in-Literal
find-returns-in-Literal t c = literal_found c.view_at.ensures c.in-Literal.is c.literal_types.ensures

pub find-returns-in-Var : goal.find-returns-in-Var
find-returns-in-Var t c = var_found c.view_at.ensures c.in-Var.is c.bytes_of-path.ensures c.var_types.ensures

pub find-returns-in-If : goal.find-returns-in-If
find-returns-in-If t c = if_seen c.view_at.ensures c.inner-s.ensures c.in-If.is c.find_if.ensures

pub find-returns-in-And : goal.find-returns-in-And
find-returns-in-And t c = and_seen c.view_at.ensures c.inner-s-in-And.ensures c.find_all.ensures c.in-And.is c.and_types.ensures

pub find-returns-in-Reduce : goal.find-returns-in-Reduce
find-returns-in-Reduce t c = reduce_seen c.view_at.ensures c.inner-s-in-Reduce.ensures c.in-Reduce.is c.find_reduce.ensures

pub find-returns-in-Apply : goal.find-returns-in-Apply
find-returns-in-Apply t c = apply_seen c.view_at.ensures c.inner-s-in-Apply.ensures c.find_all-found.ensures c.in-Apply.is c.operation_types.ensures

pub find_all-returns-in_err-types : goal.find_all-returns-in_err-types
find_all-returns-in_err-types t c = rw c.from_residual.ensures (all_found c.no_operands-o.ensures (c.loop-rest.invariant None (rest_stops c.loop-rest.rest c.find.ensures (omega (arith, c.loop-rest-test.true)) c.loop-rest.o c.in_err-types.was)))

pub find_all-loop-rest-smaller : goal.find_all-loop-rest-smaller
find_all-loop-rest-smaller t c = rw c.tail-rest.ensures (omega (arith, c.loop-rest-test.true))

pub find_all-loop-rest-preserved : goal.find_all-loop-rest-preserved
find_all-loop-rest-preserved t c = λ r a. c.loop-rest.invariant r (rest_goes_on c.loop-rest.rest c.find.ensures (omega (arith, c.loop-rest-test.true)) c.loop-rest.o c.in_ok-types.was c.one_more-o.ensures c.tail-rest.ensures a)

pub find_all-returns : goal.find_all-returns
find_all-returns t c = all_found c.no_operands-o.ensures (c.loop-rest.invariant _ (rest_done c.loop-rest.o c.loop-rest.rest (omega (arith, c.loop-rest-test.false))))

pub find_if-returns-in_err-_guard : goal.find_if-returns-in_err-_guard
find_if-returns-in_err-_guard t c = rw c.from_residual.ensures (no_guard c.find.ensures c.in_err-_guard.was)

pub find_if-find_all-requires : goal.find_if-find_all-requires
find_if-find_all-requires t c = (omega arith, c.requires)

pub find_if-returns : goal.find_if-returns
find_if-returns t c = if_found c.find.ensures c.in_ok-_guard.was c.tail-q.ensures c.find_all.ensures c.branch_types.ensures

pub find_reduce-returns-in_err-operand : goal.find_reduce-returns-in_err-operand
find_reduce-returns-in_err-operand t c = rw c.from_residual.ensures (no_operand c.find.ensures c.in_err-operand.was)

pub find_reduce-returns-in_err-initial : goal.find_reduce-returns-in_err-initial
find_reduce-returns-in_err-initial t c = rw c.from_residual-in_err-initial.ensures (no_initial c.find.ensures c.next_row-lambda.ensures c.next_row-row.ensures c.find-2.ensures c.in_err-initial.was)

pub find_reduce-returns-then-not-passes : goal.find_reduce-returns-then-not-passes
find_reduce-returns-then-not-passes t c = no_array c.find.ensures c.passes.result c.in_ok-operand.was c.only.ensures c.passes.ensures c.if-not-passes.true

pub find_reduce-returns-in_err-types : goal.find_reduce-returns-in_err-types
find_reduce-returns-in_err-types t c = rw c.from_residual-in_err-types.ensures (no_lambda c.find.ensures c.next_row-lambda.ensures c.next_row-row.ensures c.find-2.ensures c.in_ok-operand.was c.items_of.ensures c.in_ok-initial.was c.find-3.ensures c.in_err-types.was)

pub find_reduce-returns : goal.find_reduce-returns
find_reduce-returns t c = reduce_found c.find.ensures c.next_row-lambda.ensures c.next_row-row.ensures c.find-2.ensures c.in_ok-operand.was c.items_of.ensures c.in_ok-initial.was c.find-3.ensures c.passes.result c.only.ensures c.passes.ensures c.if-not-passes.false c.in_ok-types.was c.passing.ensures
