use Rattle.std.proofs.Common.{inl, inr}
use mathlib.Core.Path.{refl, sym, ◌∙◌}
use Rattle.chars.proofs.Halves.{stands_not}
use Rattle.chars.proofs.Pieces.{stops_at}
use Rattle.chars.proofs.Read.{char_end, char_never}
use Rattle.chars.proofs.Tables.{lead_as}
use Rattle.chars.proofs.piece.Goals as goal

pub returns-then-text-at : goal.returns-then-text-at
returns-then-text-at c = stops_at c.requires.0.inside (char_end _ _ c.if-text-at.true)

pub returns-in-Closing : goal.returns-in-Closing
returns-in-Closing c =
    elim c.in-Closing.is [
      | inl e ↦ absurd (stands_not c.requires.1 c.if-text-at.false refl (lead_as _ _ (sym c.lead_of.ensures ∙ e)))
      | inr e ↦ stops_at c.requires.0.inside (char_never _ _ c.if-text-at.false (sym c.lead_of.ensures ∙ e))
    ]
