use mathlib.Core.Path.{◌≡◌}
use lib.ListN.{drop}
use Rattle.model.specs.DateText.{starts_like}
use Rattle.dates.proofs.pattern.starts_like.Given as goal

abbrev pub invariant-loop-i : goal.invariant-loop-i
invariant-loop-i l = starts_like l.shape l.text ≡ starts_like (drop l.i l.shape) (drop l.i l.text)
