use mathlib.Core.Path.{sym, ◌∙◌}
use native.Mathlib.Omega.{arith}
use Rattle.chars.proofs.Pieces.{gives, stops_at, letter_end, letter_not, letter_u, taken_letter}
use Rattle.chars.proofs.escape.Goals as goal

pub returns-then-text-at : goal.returns-then-text-at
returns-then-text-at c = stops_at c.requires.0.inside (letter_end _ _ c.requires.1 c.if-text-at.true)

pub unicode-requires : goal.unicode-requires
unicode-requires c = (c.requires.0, letter_u _ _ c.requires.1 c.if-text-at.false (sym c.escape_of.ensures ∙ c.in-Unicode.is))

pub returns-in-Letter : goal.returns-in-Letter
returns-in-Letter c = gives (taken_letter _ _ c.requires.1 _ _ _ c.if-text-at.false (sym c.escape_of.ensures ∙ c.in-Letter.is)) (omega arith)

pub returns-in-NoEscape : goal.returns-in-NoEscape
returns-in-NoEscape c = stops_at c.requires.0.inside (letter_not _ _ c.requires.1 c.if-text-at.false (sym c.escape_of.ensures ∙ c.in-NoEscape.is))
