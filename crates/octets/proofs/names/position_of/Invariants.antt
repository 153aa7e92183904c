use Rattle.std.proofs.Common.{◌≡◌, drop}
use Rattle.octets.specs.Names.{place_from}
use Rattle.octets.proofs.names.position_of.Given as goal

abbrev pub invariant-loop-i : goal.invariant-loop-i
invariant-loop-i l = place_from 0 l.name l.names l.sizes ≡ place_from l.i l.name l.rest (drop l.i l.sizes)
