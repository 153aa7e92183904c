use Rattle.std.proofs.Common.{◌≡◌, true, drop}
use Rattle.octets.specs.Inner.{fragments}
use Rattle.octets.proofs.path.has_fragments.Given as goal

abbrev pub invariant-loop-b : goal.invariant-loop-b
invariant-loop-b l = fragments true l.text ≡ fragments l.empty (drop l.b-index l.text)
