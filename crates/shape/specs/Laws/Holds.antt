-- Holds: a table that was read holds, in its first row, the rule that the value is.
use Rattle.std.specs.Prelude.{Some}
use Rattle.std.specs.Prelude.{◌≡◌}
use Rattle.std.proofs.Common.{arith}
use Rattle.model.specs.Bytes.{Bytes}
use Rattle.model.proofs.Laws.Widths.{two_values}
use Rattle.model.specs.Limits.{max_nesting}
use Rattle.model.specs.Rule.{Rule}
use Rattle.model.specs.Shape.{shape}
use Rattle.model.specs.Value.{Value}
use Rattle.syntax.proofs.Laws.Sound.{sound}
use Rattle.table.specs.WasRead.{WasRead}
use Rattle.table.specs.Laws.Standing.{was_read_denotes}
use Rattle.rule.specs.Holds.{Holds}

pub holds_rule : {T B : Bytes} {v : Value} {ρ : Rule} → WasRead T B v → shape v ≡ Some ρ → Holds T B max_nesting 0 ρ
holds_rule {v = v} w e = record { within = omega (arith, two_values); value = v; denotes = was_read_denotes w; shaped = e; nests = (sound w.text v w.reads).0.flat }
