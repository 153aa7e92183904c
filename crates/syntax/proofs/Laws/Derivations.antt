-- Derivations: what follows a derivation stands behind its bytes, and two runs of white space in a row are one.
use Rattle.std.specs.Prelude.{◌≡◌, refl, ◌∷◌, ◌++◌}
use Rattle.std.proofs.Common.{ap}
use Rattle.model.specs.Bytes.{Bytes}
use Rattle.syntax.specs.Grammar.{Ws, no_ws, ws, Chars, JValue, JElements, JMembers, spell_ws, spell_chars, spell_value, spell_elements, spell_members}
use Rattle.syntax.proofs.Laws.Agreement.{◌&◌, byte, spelled_append, ws_keeps, chars_keeps, value_keeps, elements_keeps, members_keeps}

-- ---- what follows a derivation stands behind its bytes
pub ws_append : (w : Ws) (y z : Bytes) → spell_ws w (y ++ z) ≡ spell_ws w y ++ z
ws_append w = spelled_append (ws_keeps w)

pub value_append : (d : JValue) (y z : Bytes) → spell_value d (y ++ z) ≡ spell_value d y ++ z
value_append d = spelled_append (value_keeps d)

pub elements_append : (es : JElements) (y z : Bytes) → spell_elements es (y ++ z) ≡ spell_elements es y ++ z
elements_append es = spelled_append (elements_keeps es)

pub members_append : (ms : JMembers) (y z : Bytes) → spell_members ms (y ++ z) ≡ spell_members ms y ++ z
members_append ms = spelled_append (members_keeps ms)

-- A member's name, its colon and the white space around that.
pub name_append : (n : Chars) (w u : Ws) (y z : Bytes)
    → ◌≡◌ {A = Bytes} (0x22 ∷ spell_chars n (0x22 ∷ spell_ws w (0x3A ∷ spell_ws u (y ++ z)))) ((0x22 ∷ spell_chars n (0x22 ∷ spell_ws w (0x3A ∷ spell_ws u y))) ++ z)
name_append n w u = spelled_append (byte 0x22 & chars_keeps n & byte 0x22 & ws_keeps w & byte 0x3A & ws_keeps u)

-- ---- two runs of white space in a row
infixl 40 ◌⊕◌
pub ◌⊕◌ : Ws → Ws → Ws
no_ws ⊕ u = u
ws b h w ⊕ u = ws b h (w ⊕ u)

pub ws_ws : (w u : Ws) (y : Bytes) → spell_ws (w ⊕ u) y ≡ spell_ws w (spell_ws u y)
unfolding ◌⊕◌ spell_ws
ws_ws no_ws u y = refl
ws_ws (ws b h w) u y = ap (λ t. b ∷ t) (ws_ws w u y)
