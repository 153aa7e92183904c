use borrow.Author.Rules.{rules}
use borrow.Author.Tests.{ne_eqb}
use Rattle.admit.proofs.put_result.Goals as goal

pub returns-then-refusal-eq0 : goal.returns-then-refusal-eq0
returns-then-refusal-eq0 c = rw c.if-refusal-eq0.true c.put_line.ensures

pub returns : goal.returns
returns c = rw (ne_eqb _ 0 c.if-refusal-eq0.false) (rw c.from.ensures at c.put_number_line.ensures)
