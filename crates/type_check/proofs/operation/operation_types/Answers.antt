use Rattle.type_check.proofs.operation.operation_types.Goals as goal

pub returns-in-Array : goal.returns-in-Array
returns-in-Array c = rw (c.in_ok-o.was, c.in-Array.is, c.array_types.ensures, c.all_types-all.ensures)

pub returns-in-MemberOf : goal.returns-in-MemberOf
returns-in-MemberOf c = rw (c.in_ok-o.was, c.in-MemberOf.is, c.member_types.ensures)

pub returns-in-Plus : goal.returns-in-Plus
returns-in-Plus c = rw (c.in_ok-o.was, c.in-Plus.is, c.passing-in-Plus.ensures, c.only-in-Plus-2.ensures, c.only-in-Plus.ensures, c.all_types-all.ensures)

pub returns-in-DateOfBirth : goal.returns-in-DateOfBirth
returns-in-DateOfBirth c = rw (c.in_ok-o.was, c.in-DateOfBirth.is, c.passing-in-DateOfBirth.ensures, c.only-in-DateOfBirth-2.ensures, c.only-in-DateOfBirth.ensures, c.all_types-all.ensures)

pub returns-in-Compare : goal.returns-in-Compare
returns-in-Compare c = rw (c.in_ok-o.was, c.in-Compare.is, c.passing-in-Compare.ensures, c.only-in-Compare-2.ensures, c.only-in-Compare.ensures, c.domain_type.ensures, c.all_types-all.ensures)

pub returns-in-PlusTime : goal.returns-in-PlusTime
returns-in-PlusTime c = rw (c.in_ok-o.was, c.in-PlusTime.is, c.passing-in-PlusTime.ensures, c.only-in-PlusTime-2.ensures, c.only-in-PlusTime.ensures, c.all_types-all.ensures)

pub returns-in-ExtractFromUvci : goal.returns-in-ExtractFromUvci
returns-in-ExtractFromUvci c = rw (c.in_ok-o.was, c.in-ExtractFromUvci.is, c.passing-in-ExtractFromUvci.ensures, c.null_or_string-in-ExtractFromUvci.ensures, c.null_or_string.ensures, c.all_types-all.ensures)
