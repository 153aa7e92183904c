use borrow.Author.Rules.{rules}
use native.Mathlib.Omega.{arith}
use Rattle.test_vectors.proofs.Digits.{taken}
use Rattle.test_vectors.proofs.with_digit.Goals as goal

pub overflow_mul-result : goal.overflow_mul-result
overflow_mul-result c = let t = taken c.args.n c.args.x c.requires in omega arith

pub overflow_sub-x : goal.overflow_sub-x
overflow_sub-x c = let t = taken c.args.n c.args.x c.requires in t.low

pub overflow_add-result : goal.overflow_add-result
overflow_add-result c = let t = taken c.args.n c.args.x c.requires in omega arith
