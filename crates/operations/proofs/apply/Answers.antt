use Rattle.operations.proofs.Applied.{applied, of_array}
use Rattle.operations.proofs.Operations.{of_equal, of_member, of_plus, of_not, of_birth, of_comparison, of_shift, of_extract}
use Rattle.operations.proofs.apply.Goals as goal

pub returns-in-Array : goal.returns-in-Array
returns-in-Array c = rw c.in-Array.is (of_array c.requires c.list.ensures.0 c.list.ensures.1)

pub returns-in-Equal : goal.returns-in-Equal
returns-in-Equal c = rw c.in-Equal.is (applied c.equality.result (of_equal c.first-x.ensures c.operand-y.ensures c.equality.ensures) c.operated.ensures)

pub returns-in-MemberOf : goal.returns-in-MemberOf
returns-in-MemberOf c = rw c.in-MemberOf.is (applied c.membership-r.result (of_member c.first-x.ensures c.operand-y-in-MemberOf.ensures c.membership-r.ensures) c.operated-in-MemberOf.ensures)

pub returns-in-Plus : goal.returns-in-Plus
returns-in-Plus c = rw c.in-Plus.is (applied c.sum.result (of_plus c.first-x.ensures c.operand.ensures c.sum.ensures) c.operated-in-Plus.ensures)

pub returns-in-Not : goal.returns-in-Not
returns-in-Not c = rw c.in-Not.is (applied c.negated.result (of_not c.first-x.ensures c.negated.ensures) c.operated-in-Not.ensures)

pub returns-in-DateOfBirth : goal.returns-in-DateOfBirth
returns-in-DateOfBirth c = rw c.in-DateOfBirth.is (applied c.date_of_birth.result (of_birth c.first-x.ensures c.date_of_birth.ensures) c.operated-in-DateOfBirth.ensures)

pub returns-in-Compare : goal.returns-in-Compare
returns-in-Compare c = rw c.in-Compare.is (applied c.compared.result (of_comparison c.compared.ensures) c.operated-in-Compare.ensures)

pub returns-in-PlusTime : goal.returns-in-PlusTime
returns-in-PlusTime c = rw c.in-PlusTime.is (applied c.plus_time.result (of_shift c.first-x.ensures _ c.plus_time.ensures) c.operated-in-PlusTime.ensures)

pub returns-in-ExtractFromUvci : goal.returns-in-ExtractFromUvci
returns-in-ExtractFromUvci c = rw c.in-ExtractFromUvci.is (applied c.extract.result (of_extract c.first-x.ensures _ c.extract.ensures) c.operated-in-ExtractFromUvci.ensures)
