use borrow.Author.Rules.{rules}
use borrow.Author.Tests.{ne_eqb, lt-leb, eq-eqb, le-leb}
use mathlib.Core.Path.{sym}
use lib.ListN.{length}
use lib.Seq.{length-take-le}
use Rattle.test_vectors.proofs.is_text.Goals as goal

pub returns-then-size-n : goal.returns-then-size-n
returns-then-size-n c = rw (ne_eqb _ _ c.if-size-n.true)

pub returns-then-n-output : goal.returns-then-n-output
returns-then-n-output c = rw (eq-eqb _ _ c.if-size-n.false, lt-leb (length c.args.text.now) (length c.args.output.now) (search rules))

pub slice_bounds-same-end : goal.slice_bounds-same-end
slice_bounds-same-end c = sym (length-take-le _ _ (search rules))

pub returns : goal.returns
returns c = rw (eq-eqb _ _ c.if-size-n.false, le-leb (length c.args.text.now) (length c.args.output.now) (search rules)) c.same.ensures
