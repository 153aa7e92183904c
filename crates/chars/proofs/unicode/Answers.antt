use mathlib.Core.Path.{◌≡◌}
use Rattle.std.specs.Prelude.{Err}
use Rattle.std.proofs.Common.{rules}
use Rattle.chars.proofs.Pieces.{stops_at, escaped, unit_not}
use Rattle.chars.proofs.unicode.Goals as goal

pub unit-requires : goal.unit-requires
unit-requires c = (c.requires.0, escaped c.requires.1 c.in_ok-u.ensures, c.in_ok-u.ensures.small)

pub returns-in_err-u : goal.returns-in_err-u
returns-in_err-u c =
    let e : c.from_residual.result ≡ Err c.in_err-u.field-0.0 = search rules in
    rw e (stops_at c.requires.0.inside (unit_not c.requires.1 c.in_err-u.ensures))
