use borrow.Author.Rules.{rules}
use mathlib.Core.Path.{sym, ◌∙◌}
use Prim.Native.Nat.{◌-◌}
use lib.ListN.{length}
use Rattle.test_vectors.proofs.Digits.{ReadTo, number_begins, number_stops, number_goes, number_ends}
use borrow.Author.Tests.{not-true, not-false}
use Rattle.test_vectors.proofs.read_number.Goals as goal

pub loop-i-init : goal.loop-i-init
loop-i-init c = number_begins c.args.text.now c.args.at

pub returns-then-not-takes_digit : goal.returns-then-not-takes_digit
returns-then-not-takes_digit c = number_stops c.loop-i.invariant (search rules) (sym c.takes_digit.ensures ∙ c.if-not-takes_digit.true)

pub with_digit-n-requires : goal.with_digit-n-requires
with_digit-n-requires c = sym c.takes_digit.ensures ∙ c.if-not-takes_digit.false

pub loop-i-preserved : goal.loop-i-preserved
loop-i-preserved c = number_goes c.loop-i.invariant (search rules) (sym c.takes_digit.ensures ∙ c.if-not-takes_digit.false) c.with_digit-n.ensures

pub returns : goal.returns
returns c = number_ends c.loop-i.invariant (search rules)
