use native.Mathlib.Omega.{arith}
use Rattle.chars.proofs.Pieces.{gives, stops_at, char_short, taken_char}
use Rattle.chars.proofs.character.Goals as goal

pub returns-then-found-n : goal.returns-then-found-n
returns-then-found-n c = stops_at c.requires.0.inside (char_short _ _ _ _ _ c.requires.1 c.tails-found.ensures c.if-found-n.true)

pub returns : goal.returns
returns c = gives (taken_char _ _ _ _ _ c.requires.1 c.tails-found.ensures _ _ _ c.if-found-n.false c.copy.ensures) (omega arith)
