use mathlib.Core.Path.{◌≡◌}
use Prim.Native.Nat.{◌+◌}
use lib.ListN.{drop}
use Rattle.model.specs.DateText.{digit_run}
use Rattle.dates.proofs.pattern.digit_run.Given as goal

abbrev pub invariant-loop-i : goal.invariant-loop-i
invariant-loop-i l = digit_run l.text ≡ l.i + digit_run (drop l.i l.text)
