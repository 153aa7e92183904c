use Prim.Native.Nat.{◌+◌}
use Rattle.syntax.specs.declared.Unit.TheVariants.{Low}
use Rattle.chars.specs.Inner.{Escaped}
use native.Mathlib.Omega.{arith}
use Rattle.syntax.specs.Utf8.{pair_of}
use Rattle.chars.proofs.Pieces.{gives, stops_high, taken_pair}
use Rattle.chars.proofs.Tables.{unit_as}
use Rattle.chars.proofs.pair.Goals as goal

pub overflow_sub-h : goal.overflow_sub-h
overflow_sub-h c = omega (arith, unit_as _ _ c.requires.1.of)

pub overflow_mul-h : goal.overflow_mul-h
overflow_mul-h c = omega (arith, unit_as _ _ c.requires.1.of)

pub overflow_add-h : goal.overflow_add-h
overflow_add-h c = omega (arith, unit_as _ _ c.requires.1.of)

pub overflow_sub-l : goal.overflow_sub-l
overflow_sub-l c =
    let second : Escaped c.args.text.now (c.args.at + 6) c.in-Some.l Low = c.in-Some.ensures in
    omega (arith, unit_as _ _ second.of)

pub overflow_add-h-2 : goal.overflow_add-h-2
overflow_add-h-2 c =
    let second : Escaped c.args.text.now (c.args.at + 6) c.in-Some.l Low = c.in-Some.ensures in
    omega (arith, unit_as _ _ c.requires.1.of, unit_as _ _ second.of)

pub put_utf8-requires : goal.put_utf8-requires
put_utf8-requires c =
    let second : Escaped c.args.text.now (c.args.at + 6) c.in-Some.l Low = c.in-Some.ensures in
    omega (arith, unit_as _ _ c.requires.1.of, unit_as _ _ second.of, second.inside)

pub returns-in_default : goal.returns-in_default
returns-in_default c = stops_high c.requires.1 c.in_default.ensures

pub returns : goal.returns
unfolding pair_of
returns c = gives (taken_pair c.requires.1 c.in-Some.ensures c.put_utf8.ensures) (omega arith)
