use mathlib.Core.Path.{◌∙◌}
use Rattle.model.specs.Limits.{max_integer}
use Rattle.scan.specs.Laws.{decimal_as}
use Rattle.scan.proofs.Numerals.{count_start, count_more, count_stop, count_past}
use Rattle.scan.proofs.number.digits.Goals as goal

pub loop-i-init : goal.loop-i-init
loop-i-init c = count_start _ _ _ _ c.requires.0 c.requires.1

pub returns-in_default : goal.returns-in_default
returns-in_default c = count_stop c.loop-i.invariant c.loop-i-test.true (decimal_as _ c.decimal_of.ensures c.in_default.is) c.ended.ensures

pub returns-then-n-gt-MAX_INTEGER : goal.returns-then-n-gt-MAX_INTEGER
unfolding max_integer
returns-then-n-gt-MAX_INTEGER c =
    let d = decimal_as _ c.decimal_of.ensures c.in-Some.is in
    count_past c.loop-i.invariant c.loop-i-test.true d.0 (c.from.ensures ∙ d.1) c.if-n-gt-MAX_INTEGER.true

pub loop-i-preserved : goal.loop-i-preserved
unfolding max_integer
loop-i-preserved c =
    let d = decimal_as _ c.decimal_of.ensures c.in-Some.is in
    count_more c.loop-i.invariant c.loop-i-test.true d.0 (c.from.ensures ∙ d.1) c.if-n-gt-MAX_INTEGER.false
