use mathlib.Core.Path.{sym, ◌∙◌}
use native.Mathlib.Omega.{arith}
use Rattle.chars.proofs.Pieces.{gives, stops_low, taken_unit, of_kind}
use Rattle.chars.proofs.unit.Goals as goal

pub pair-requires : goal.pair-requires
pair-requires c = (c.requires.0, of_kind c.requires.1 (sym c.unit_of.ensures ∙ c.in-High.is))

pub returns-in-Plain : goal.returns-in-Plain
returns-in-Plain c = gives (taken_unit (of_kind c.requires.1 (sym c.unit_of.ensures ∙ c.in-Plain.is)) c.put_utf8.ensures) (omega arith)

pub returns-in-Low : goal.returns-in-Low
returns-in-Low c = stops_low (of_kind c.requires.1 (sym c.unit_of.ensures ∙ c.in-Low.is))
