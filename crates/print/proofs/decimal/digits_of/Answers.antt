use mathlib.Core.Path.{refl}
use borrow.Author.Rules.{rules}
use Rattle.print.proofs.Digits.{filling_none, room_one, room_two, filling_two, filled, filled_two, pair_last, pair_first}
use Rattle.print.proofs.decimal.digits_of.Goals as goal

pub loop-rest-init : goal.loop-rest-init
loop-rest-init c = filling_none c.args.n _ (search rules) refl refl

pub overflow_sub-bytes : goal.overflow_sub-bytes
overflow_sub-bytes c = room_one c.loop-rest.invariant

pub overflow_sub-bytes-in-loop-rest : goal.overflow_sub-bytes-in-loop-rest
overflow_sub-bytes-in-loop-rest c = room_two c.loop-rest.invariant (search rules)

pub overflow_sub-i : goal.overflow_sub-i
overflow_sub-i c = room_two c.loop-rest.invariant (search rules)

pub loop-rest-preserved : goal.loop-rest-preserved
loop-rest-preserved c = filling_two c.loop-rest.invariant c.loop-rest-test.true (pair_last c.loop-rest.rest c.digit.ensures) (pair_first c.loop-rest.rest c.digit-in-loop-rest.ensures)

pub overflow_sub-bytes-2 : goal.overflow_sub-bytes-2
overflow_sub-bytes-2 c = room_one c.loop-rest.invariant

pub overflow_sub-result : goal.overflow_sub-result
overflow_sub-result c = room_one c.loop-rest.invariant

pub returns-then-rest-lt10 : goal.returns-then-rest-lt10
returns-then-rest-lt10 c = filled c.loop-rest.invariant c.if-rest-lt10.true c.digit-2.ensures

pub overflow_sub-bytes-3 : goal.overflow_sub-bytes-3
overflow_sub-bytes-3 c = room_two c.loop-rest.invariant c.if-rest-lt10.false

pub overflow_sub-result-2 : goal.overflow_sub-result-2
overflow_sub-result-2 c = room_two c.loop-rest.invariant c.if-rest-lt10.false

pub returns : goal.returns
returns c = filled_two c.loop-rest.invariant c.if-rest-lt10.false c.loop-rest-test.false c.digit-2.ensures c.digit-3.ensures
