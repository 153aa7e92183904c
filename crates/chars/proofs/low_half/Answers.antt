use Rattle.std.proofs.Common.{inl, inr}
use mathlib.Core.Path.{sym, ◌∙◌}
use Rattle.chars.proofs.Halves.{alone_lead, alone_letter, alone_bad, alone_plain, alone_high_lem, backslash, backslash_u}
use Rattle.chars.proofs.Pieces.{unit_not, escaped, of_kind}
use Rattle.chars.proofs.low_half.Goals as goal

pub returns-then-not-stands : goal.returns-then-not-stands
returns-then-not-stands c = alone_lead c.stands.ensures c.if-not-stands.true

pub returns-then-not-stands-2 : goal.returns-then-not-stands-2
returns-then-not-stands-2 c = alone_letter (backslash c.stands.ensures c.if-not-stands.false) c.stands-2.ensures c.if-not-stands-2.true

pub returns-in_default : goal.returns-in_default
returns-in_default c = alone_bad _ _ (unit_not (backslash_u c.stands.ensures c.if-not-stands.false c.stands-2.ensures c.if-not-stands-2.false) c.in_default.ensures)

pub returns-in-Low : goal.returns-in-Low
returns-in-Low c = of_kind (escaped (backslash_u c.stands.ensures c.if-not-stands.false c.stands-2.ensures c.if-not-stands-2.false) c.in-Ok.ensures) (sym c.unit_of.ensures ∙ c.in-Low.is)

pub returns-in-High : goal.returns-in-High
returns-in-High c =
    let u = escaped (backslash_u c.stands.ensures c.if-not-stands.false c.stands-2.ensures c.if-not-stands-2.false) c.in-Ok.ensures in
    elim c.in-High.is [
      | inl e ↦ alone_high_lem (of_kind u (sym c.unit_of.ensures ∙ e))
      | inr e ↦ alone_plain (of_kind u (sym c.unit_of.ensures ∙ e))
    ]
