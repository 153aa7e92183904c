use mathlib.Core.Path.{sym, ◌∙◌}
use Rattle.test_vectors.specs.Cases.{agrees_in}
use Rattle.test_vectors.proofs.Agreement.{unexpected, as_expected}
use Rattle.test_vectors.proofs.agrees_in.Goals as goal

pub returns-then-is_expected : goal.returns-then-is_expected
unfolding agrees_in
returns-then-is_expected c = as_expected c.args.h c.args.answer.now c.evaluate-o.ensures (sym c.is_expected.ensures ∙ c.if-is_expected.true) c.is_text.ensures

pub returns-else-is_expected : goal.returns-else-is_expected
unfolding agrees_in
returns-else-is_expected c = c.if-is_expected.false ∙ unexpected c.args.h c.args.answer.now c.evaluate-o.ensures (sym c.is_expected.ensures ∙ c.if-is_expected.false)
