use borrow.Author.Rules.{rules}
use Rattle.test_vectors.proofs.Agreement.{not_whole, whole}
use Rattle.test_vectors.proofs.is_whole.Goals as goal

pub returns-then-h-n : goal.returns-then-h-n
returns-then-h-n c = not_whole c.args.n c.args.h (search rules)

pub returns-then-h-left : goal.returns-then-h-left
returns-then-h-left c = not_whole c.args.n c.args.h (search rules)

pub returns-then-h-left-2 : goal.returns-then-h-left-2
returns-then-h-left-2 c = not_whole c.args.n c.args.h (search rules)

pub returns : goal.returns
returns c = whole c.args.n c.args.h (search rules)
