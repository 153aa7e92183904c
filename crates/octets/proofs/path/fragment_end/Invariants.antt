use Rattle.std.proofs.Common.{◌≡◌, ◌+◌, drop}
use Rattle.octets.specs.Fragment.{fragment_length}
use Rattle.octets.proofs.path.fragment_end.Given as goal

abbrev pub invariant-loop-b : goal.invariant-loop-b
invariant-loop-b l = (l.end ≡ l.at + l.b-index) × (l.at + fragment_length l.separators (drop l.at l.text) ≡ l.end + fragment_length l.separators (drop l.b-index l.rest))
