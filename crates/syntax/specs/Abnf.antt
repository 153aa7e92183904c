-- Abnf: RFC 8259's rules for JSON-text, value, object, member, array and the structural characters, word for word; those for ws, number and
-- string are Grammar's, where `unescaped` is the table of UTF-8 byte by byte (Laws.Utf8 has that it is %x20-21 / %x23-5B / %x5D-10FFFF). Laws.Abnf has that these rules and Grammar's derive the same texts.
use Rattle.std.specs.Prelude.{Bool, [], ◌∷◌, ℕ}
use Rattle.model.specs.Bytes.{Bytes}
use Rattle.syntax.specs.Grammar.{Ws, Int, Frac, Exp, Chars, spell_ws, spell_int, spell_frac, spell_exp, spell_minus, spell_chars}

-- ---- derivations
-- A structural character of byte b: ws b ws.
pub data Structural (b : ℕ) : Type 0 where
  structural : Ws → Ws → Structural b

-- begin-array = ws %x5B ws
abbrev pub BeginArray : Type 0
BeginArray = Structural 0x5B

-- begin-object = ws %x7B ws
abbrev pub BeginObject : Type 0
BeginObject = Structural 0x7B

-- end-array = ws %x5D ws
abbrev pub EndArray : Type 0
EndArray = Structural 0x5D

-- end-object = ws %x7D ws
abbrev pub EndObject : Type 0
EndObject = Structural 0x7D

-- name-separator = ws %x3A ws
abbrev pub NameSeparator : Type 0
NameSeparator = Structural 0x3A

-- value-separator = ws %x2C ws
abbrev pub ValueSeparator : Type 0
ValueSeparator = Structural 0x2C

mutual
  -- value = false / null / true / object / array / number / string
  pub data RValue : Type 0 where
    rfalse rnull rtrue : RValue
    robject : RObject → RValue
    rarray : RArray → RValue
    rnumber : Bool → Int → Frac → Exp → RValue
    rstring : Chars → RValue

  -- object = begin-object [ member *( value-separator member ) ] end-object
  pub data RObject : Type 0 where
    no_rmembers : BeginObject → EndObject → RObject
    some_rmembers : BeginObject → RMembers → EndObject → RObject

  --   member *( value-separator member )
  pub data RMembers : Type 0 where
    one_rmember : RMember → RMembers
    more_rmembers : RMember → ValueSeparator → RMembers → RMembers

  -- member = string name-separator value
  pub data RMember : Type 0 where
    rmember : Chars → NameSeparator → RValue → RMember

  -- array = begin-array [ value *( value-separator value ) ] end-array
  pub data RArray : Type 0 where
    no_rvalues : BeginArray → EndArray → RArray
    some_rvalues : BeginArray → RValues → EndArray → RArray

  --   value *( value-separator value )
  pub data RValues : Type 0 where
    one_rvalue : RValue → RValues
    more_rvalues : RValue → ValueSeparator → RValues → RValues

-- JSON-text = ws value ws
pub data RText : Type 0 where
  rtext : Ws → RValue → Ws → RText

-- ---- the bytes of a derivation, in front of y
unfoldable pub spell_structural : {b : ℕ} → Structural b → Bytes → Bytes
spell_structural {b} (structural u w) y = spell_ws u (b ∷ spell_ws w y)

unfoldable mutual
  pub spell_rvalue : RValue → Bytes → Bytes
  spell_rvalue rfalse y = 0x66 ∷ 0x61 ∷ 0x6C ∷ 0x73 ∷ 0x65 ∷ y
  spell_rvalue rnull y = 0x6E ∷ 0x75 ∷ 0x6C ∷ 0x6C ∷ y
  spell_rvalue rtrue y = 0x74 ∷ 0x72 ∷ 0x75 ∷ 0x65 ∷ y
  spell_rvalue (robject o) y = spell_robject o y
  spell_rvalue (rarray a) y = spell_rarray a y
  spell_rvalue (rnumber negative i fr ex) y = spell_minus negative (spell_int i (spell_frac fr (spell_exp ex y)))
  spell_rvalue (rstring cs) y = 0x22 ∷ spell_chars cs (0x22 ∷ y)

  pub spell_robject : RObject → Bytes → Bytes
  spell_robject (no_rmembers b e) y = spell_structural b (spell_structural e y)
  spell_robject (some_rmembers b ms e) y = spell_structural b (spell_rmembers ms (spell_structural e y))

  pub spell_rmembers : RMembers → Bytes → Bytes
  spell_rmembers (one_rmember m) y = spell_rmember m y
  spell_rmembers (more_rmembers m s ms) y = spell_rmember m (spell_structural s (spell_rmembers ms y))

  pub spell_rmember : RMember → Bytes → Bytes
  spell_rmember (rmember n c v) y = 0x22 ∷ spell_chars n (0x22 ∷ spell_structural c (spell_rvalue v y))

  pub spell_rarray : RArray → Bytes → Bytes
  spell_rarray (no_rvalues b e) y = spell_structural b (spell_structural e y)
  spell_rarray (some_rvalues b vs e) y = spell_structural b (spell_rvalues vs (spell_structural e y))

  pub spell_rvalues : RValues → Bytes → Bytes
  spell_rvalues (one_rvalue v) y = spell_rvalue v y
  spell_rvalues (more_rvalues v s vs) y = spell_rvalue v (spell_structural s (spell_rvalues vs y))

unfoldable pub spell_rtext : RText → Bytes
spell_rtext (rtext w v u) = spell_ws w (spell_rvalue v (spell_ws u []))
