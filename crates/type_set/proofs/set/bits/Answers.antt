use native.Mathlib.Omega.{arith}
use Rattle.type_set.specs.Laws.Fields.{bits_fields}
use Rattle.type_set.proofs.Sets.{weighed}
use Rattle.type_set.proofs.set.bits.Goals as goal

pub returns : goal.returns
returns c =
    let s = c.args.s in
    omega (arith, bits_fields s, weighed 1 s.null, weighed 2 s.boolean, weighed 4 s.integer, weighed 8 s.string, weighed 16 s.date, weighed 32 s.day, weighed 64 s.integers, weighed 128 s.strings, weighed 256 s.array, weighed 512 s.object, weighed 1024 s.instant)
