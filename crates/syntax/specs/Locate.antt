-- Locate: where a value stands in a text, and another value in its place (01, Evaluation: "the bytes of that one value give way").
-- A position counts, from 0, the items of an array or the members of an object. Positions lead from the whole to a value in it.
use Rattle.std.specs.Prelude.{◌≡◌, List, [], ◌∷◌, ◌++◌, ℕ, zero, suc}
use Rattle.std.specs.Prelude.{Option, None, Some}
use Rattle.model.specs.Bytes.{Bytes}
use Rattle.model.specs.Option.{◌>>=◌, or_else}
use Rattle.model.specs.Path.{item_at}
use Rattle.model.specs.Place.{operand_values_in, map_item}
use Rattle.model.specs.Run.{Place}
use Rattle.model.specs.Value.{Value, scalar, instant, array, object, Members, no_members, member}
use Rattle.syntax.specs.Grammar.{Ws, Chars, JValue, jtrue, jfalse, jnull, jnumber, jstring, jempty_array, jarray, jempty_object, jobject, JElements, last_element, element, JMembers, last_member, jmember, JText, jtext, spell_ws, spell_chars, spell_value, spell_elements, spell_members, spell}

-- Outermost first.
abbrev pub Positions : Type 0
Positions = List ℕ

-- ---- in a value
abbrev pub content_at : Members → ℕ → Option Value
content_at no_members k = None
content_at (member name v ms) zero = Some v
content_at (member name v ms) (suc k) = content_at ms k

-- An array's item, or the content of an object's member.
abbrev pub child_at : Value → ℕ → Option Value
child_at (scalar x) k = None
child_at (instant t) k = None
child_at (array vs) k = item_at vs k
child_at (object ms) k = content_at ms k

-- The value at some positions, if one stands there.
abbrev pub part_at : Positions → Value → Option Value
part_at [] v = Some v
part_at (k ∷ q) v = child_at v k >>= part_at q

abbrev pub map_content : Members → ℕ → (Value → Value) → Members
map_content no_members k f = no_members
map_content (member name v ms) zero f = member name (f v) ms
map_content (member name v ms) (suc k) f = member name v (map_content ms k f)

abbrev pub map_child : Value → ℕ → (Value → Value) → Value
map_child (scalar x) k f = scalar x
map_child (instant t) k f = instant t
map_child (array vs) k f = array (map_item vs k f)
map_child (object ms) k f = object (map_content ms k f)

abbrev pub map_part : Positions → (Value → Value) → Value → Value
map_part [] f v = f v
map_part (k ∷ q) f v = map_child v k (map_part q f)

-- Another value in the place of the one there.
abbrev pub replace_part : Positions → Value → Value → Value
replace_part q new v = map_part q (λ old. new) v

-- ---- in a derivation
-- The bytes before a value, its derivation, and the bytes after it.
pub record Site : Type 0 where
  pub before : Bytes
  pub value : JValue
  pub after : Bytes

-- A site after some more bytes; a site in the value of a site.
abbrev pub behind : Bytes → Site → Site
behind a s = record { before = a ++ s.before; value = s.value; after = s.after }

abbrev pub inside : Site → Site → Site
inside s t = record { before = s.before ++ t.before; value = t.value; after = t.after ++ s.after }

unfoldable pub element_at : JElements → ℕ → Option Site
element_at (last_element v w) zero = Some (record { before = []; value = v; after = spell_ws w (0x5D ∷ []) })
element_at (last_element v w) (suc k) = None
element_at (element v w u es) zero = Some (record { before = []; value = v; after = spell_ws w (0x2C ∷ spell_ws u (spell_elements es [])) })
element_at (element v w u es) (suc k) = do
  s ← element_at es k
  Some (behind (spell_value v (spell_ws w (0x2C ∷ spell_ws u []))) s)

-- A member's name, its colon and the white space around that.
abbrev pub spell_name : Chars → Ws → Ws → Bytes → Bytes
spell_name n w u y = 0x22 ∷ spell_chars n (0x22 ∷ spell_ws w (0x3A ∷ spell_ws u y))

unfoldable pub member_at : JMembers → ℕ → Option Site
member_at (last_member n w u v x) zero = Some (record { before = spell_name n w u []; value = v; after = spell_ws x (0x7D ∷ []) })
member_at (last_member n w u v x) (suc k) = None
member_at (jmember n w u v x z ms) zero = Some (record { before = spell_name n w u []; value = v; after = spell_ws x (0x2C ∷ spell_ws z (spell_members ms [])) })
member_at (jmember n w u v x z ms) (suc k) = do
  s ← member_at ms k
  Some (behind (spell_name n w u (spell_value v (spell_ws x (0x2C ∷ spell_ws z [])))) s)

unfoldable pub child_site : JValue → ℕ → Option Site
child_site jtrue k = None
child_site jfalse k = None
child_site jnull k = None
child_site (jnumber negative i fr ex) k = None
child_site (jstring cs) k = None
child_site (jempty_array w) k = None
child_site (jarray w es) k = do
  s ← element_at es k
  Some (behind (0x5B ∷ spell_ws w []) s)
child_site (jempty_object w) k = None
child_site (jobject w ms) k = do
  s ← member_at ms k
  Some (behind (0x7B ∷ spell_ws w []) s)

unfoldable pub value_site : Positions → JValue → Option Site
value_site [] d = Some (record { before = []; value = d; after = [] })
value_site (k ∷ q) d = do
  s ← child_site d k
  t ← value_site q s.value
  Some (inside s t)

unfoldable pub site : Positions → JText → Option Site
site q (jtext w d u) = do
  s ← value_site q d
  Some (inside (record { before = spell_ws w []; value = d; after = spell_ws u [] }) s)

-- ---- in a text
-- In a text the value at these positions has the bytes `old`, with `before` and `after` around them: a derivation of the text has it there.
-- (The first field follows from the others.)
pub record StandsAt (text : Bytes) (q : Positions) (before old after : Bytes) : Type 0 where
  pub splits : text ≡ before ++ (old ++ after)
  pub tree : JText
  pub spells : spell tree ≡ text
  pub value : JValue
  pub there : site q tree ≡ Some (record { before = before; value = value; after = after })
  pub is : spell_value value [] ≡ old

-- ---- operands
-- A place of the model as positions: an operand of an operation is an item of the array that is the content of its one member.
abbrev pub to_operand : Value → ℕ → Positions
to_operand (scalar x) k = k ∷ []
to_operand (instant t) k = k ∷ []
to_operand (array vs) k = k ∷ []
to_operand (object ms) k = 0 ∷ k ∷ []

abbrev pub positions_of : Place → Value → Positions
positions_of [] v = []
positions_of (k ∷ q) v = to_operand v k ++ or_else (item_at (operand_values_in v) k >>= λ w. Some (positions_of q w)) []
