use Rattle.scan.proofs.Numerals.{digit_in, number_digits}
use Rattle.scan.proofs.number.number.Goals as goal

pub returns-in-Some : goal.returns-in-Some
returns-in-Some c = number_digits _ _ _ (digit_in c.digit_at.ensures.is c.in-Some.is) c.in-Some.first-test.1 c.from.ensures c.digits.ensures
