use native.Mathlib.Omega.{arith}
use Rattle.chars.proofs.Loops.{hex_in, hexes_none, hexes_more, hexes_all, hexes_some, hexes_small}
use Rattle.chars.proofs.code_unit.Goals as goal

pub loop-i-init : goal.loop-i-init
loop-i-init c = hexes_none _ _ c.requires

pub returns-in_default : goal.returns-in_default
returns-in_default c = hexes_some c.loop-i.invariant c.loop-i-test.true c.hex_at.ensures.is c.in_default.is

pub overflow_mul-unit : goal.overflow_mul-unit
overflow_mul-unit c = omega (arith, hexes_small c.loop-i.invariant c.loop-i-test.true)

pub overflow_add-unit : goal.overflow_add-unit
overflow_add-unit c =
    let x = hex_in c.hex_at.ensures.is c.in-Some.is in
    omega (arith, hexes_small c.loop-i.invariant c.loop-i-test.true, x.small, c.from.ensures)

pub loop-i-preserved : goal.loop-i-preserved
loop-i-preserved c = hexes_more c.loop-i.invariant c.loop-i-test.true (hex_in c.hex_at.ensures.is c.in-Some.is) c.from.ensures

pub returns : goal.returns
returns c = hexes_all c.loop-i.invariant c.loop-i-test.false
