-- Grammar: RFC 8259's ABNF. For each rule a type of its derivations, the bytes that a derivation spells, and its meaning where it has one in our domain.
-- The RFC allows ws on both sides of a structural character, here each run of it has one place; Abnf has the RFC's rules word for word,
-- and Laws.Abnf that they derive the same texts. A derivation spells its bytes in front of those that follow.
use Rattle.std.specs.Prelude.{◌≡◌, Bool, true, false, List, [], ◌∷◌, ◌++◌, ℕ, suc, ◌+◌, ◌*◌, T, leb}
use Rattle.std.specs.Prelude.{Option, None, Some}
use Rattle.model.specs.Bytes.{Bytes, ascii}
use Rattle.model.specs.Limits.{max_integer}
use Rattle.model.specs.Value.{Value, scalar, array, object, null, boolean, string, Values, no_items, item, Members, no_members, member}
use Rattle.syntax.specs.declared.Lead.TheVariants.{Char}
use Rattle.syntax.specs.declared.Escape.TheVariants.{Letter}
use Rattle.syntax.specs.declared.Unit.TheVariants.{Plain, High, Low}
use Rattle.syntax.specs.Tokens.{within, is_white, is_digit, is_digit1_9, digit_value, is_e, escape_of, hex_of}
use Rattle.syntax.specs.Utf8.{utf8, lead_of, unit_of, pair_of}
use Rattle.syntax.specs.Domain.{signed, among}

-- ---- derivations
-- ws = *( %x20 / %x09 / %x0A / %x0D )
pub data Ws : Type 0 where
  no_ws : Ws
  ws : (b : ℕ) → T (is_white b) → Ws → Ws

-- number = [ minus ] int [ frac ] [ exp ]
--   *DIGIT
pub data Digits : Type 0 where
  no_digits : Digits
  digit : (b : ℕ) → T (is_digit b) → Digits → Digits

--   int = zero / ( digit1-9 *DIGIT )
pub data Int : Type 0 where
  zero_int : Int
  int : (b : ℕ) → T (is_digit1_9 b) → Digits → Int

--   [ frac ], frac = decimal-point 1*DIGIT
pub data Frac : Type 0 where
  no_frac : Frac
  frac : (b : ℕ) → T (is_digit b) → Digits → Frac

--   [ exp ], exp = e [ minus / plus ] 1*DIGIT
pub data Sign : Type 0 where
  no_sign minus plus : Sign

pub data Exp : Type 0 where
  no_exp : Exp
  exp : (e : ℕ) → T (is_e e) → Sign → (b : ℕ) → T (is_digit b) → Digits → Exp

-- string = quotation-mark *char quotation-mark
--   The n bytes after the first of a character (RFC 3629): the first of them from lo to hi, the others UTF8-tail = %x80-BF.
pub data Tails : ℕ → ℕ → ℕ → Type 0 where
  no_tail : {lo hi : ℕ} → Tails 0 lo hi
  tail : {n lo hi : ℕ} (b : ℕ) → T (within lo hi b) → Tails n 0x80 0xBF → Tails (suc n) lo hi

--   n HEXDIG
pub data Hexes : ℕ → Type 0 where
  no_hexes : Hexes 0
  hex : {n : ℕ} (b d : ℕ) → hex_of b ≡ Some d → Hexes n → Hexes (suc n)

--   char = unescaped / escape ( %x22 / .. / %x74 / %x75 4HEXDIG )
pub data Chars : Type 0 where
  no_chars : Chars
  unescaped : (b n lo hi : ℕ) → lead_of b ≡ Char n lo hi → Tails n lo hi → Chars → Chars
  escaped : (b d : ℕ) → escape_of b ≡ Letter d → Chars → Chars
  code_unit_lem : Hexes 4 → Chars → Chars

-- value = false / null / true / object / array / number / string
mutual
  pub data JValue : Type 0 where
    jtrue jfalse jnull : JValue
    jnumber : Bool → Int → Frac → Exp → JValue
    jstring : Chars → JValue
    jempty_array : Ws → JValue  -- [ ws ]
    jarray : Ws → JElements → JValue  -- [ ws elements
    jempty_object : Ws → JValue  -- { ws }
    jobject : Ws → JMembers → JValue  -- { ws members

  pub data JElements : Type 0 where
    last_element : JValue → Ws → JElements  -- value ws ]
    element : JValue → Ws → Ws → JElements → JElements  -- value ws , ws elements

  pub data JMembers : Type 0 where
    last_member : Chars → Ws → Ws → JValue → Ws → JMembers  -- string ws : ws value ws }
    jmember : Chars → Ws → Ws → JValue → Ws → Ws → JMembers → JMembers  -- string ws : ws value ws , ws members

-- JSON-text = ws value ws
pub data JText : Type 0 where
  jtext : Ws → JValue → Ws → JText

-- ---- the bytes of a derivation, in front of y
unfoldable pub spell_ws : Ws → Bytes → Bytes
spell_ws no_ws y = y
spell_ws (ws b h w) y = b ∷ spell_ws w y

unfoldable pub spell_digits : Digits → Bytes → Bytes
spell_digits no_digits y = y
spell_digits (digit b h ds) y = b ∷ spell_digits ds y

unfoldable pub spell_int : Int → Bytes → Bytes
spell_int zero_int y = 0x30 ∷ y
spell_int (int b h ds) y = b ∷ spell_digits ds y

unfoldable pub spell_frac : Frac → Bytes → Bytes
spell_frac no_frac y = y
spell_frac (frac b h ds) y = 0x2E ∷ b ∷ spell_digits ds y

unfoldable pub spell_sign : Sign → Bytes → Bytes
spell_sign no_sign y = y
spell_sign minus y = 0x2D ∷ y
spell_sign plus y = 0x2B ∷ y

unfoldable pub spell_exp : Exp → Bytes → Bytes
spell_exp no_exp y = y
spell_exp (exp e h s b k ds) y = e ∷ spell_sign s (b ∷ spell_digits ds y)

unfoldable pub spell_minus : Bool → Bytes → Bytes
spell_minus false y = y
spell_minus true y = 0x2D ∷ y

unfoldable pub spell_tails : {n lo hi : ℕ} → Tails n lo hi → Bytes → Bytes
spell_tails no_tail y = y
spell_tails (tail b h ts) y = b ∷ spell_tails ts y

unfoldable pub spell_hexes : {n : ℕ} → Hexes n → Bytes → Bytes
spell_hexes no_hexes y = y
spell_hexes (hex b d h hs) y = b ∷ spell_hexes hs y

unfoldable pub spell_chars : Chars → Bytes → Bytes
spell_chars no_chars y = y
spell_chars (unescaped b n lo hi h ts cs) y = b ∷ spell_tails ts (spell_chars cs y)
spell_chars (escaped b d h cs) y = 0x5C ∷ b ∷ spell_chars cs y
spell_chars (code_unit_lem hs cs) y = 0x5C ∷ 0x75 ∷ spell_hexes hs (spell_chars cs y)

unfoldable mutual
  pub spell_value : JValue → Bytes → Bytes
  spell_value jtrue y = 0x74 ∷ 0x72 ∷ 0x75 ∷ 0x65 ∷ y
  spell_value jfalse y = 0x66 ∷ 0x61 ∷ 0x6C ∷ 0x73 ∷ 0x65 ∷ y
  spell_value jnull y = 0x6E ∷ 0x75 ∷ 0x6C ∷ 0x6C ∷ y
  spell_value (jnumber negative i fr ex) y = spell_minus negative (spell_int i (spell_frac fr (spell_exp ex y)))
  spell_value (jstring cs) y = 0x22 ∷ spell_chars cs (0x22 ∷ y)
  spell_value (jempty_array w) y = 0x5B ∷ spell_ws w (0x5D ∷ y)
  spell_value (jarray w es) y = 0x5B ∷ spell_ws w (spell_elements es y)
  spell_value (jempty_object w) y = 0x7B ∷ spell_ws w (0x7D ∷ y)
  spell_value (jobject w ms) y = 0x7B ∷ spell_ws w (spell_members ms y)

  pub spell_elements : JElements → Bytes → Bytes
  spell_elements (last_element v w) y = spell_value v (spell_ws w (0x5D ∷ y))
  spell_elements (element v w u es) y = spell_value v (spell_ws w (0x2C ∷ spell_ws u (spell_elements es y)))

  pub spell_members : JMembers → Bytes → Bytes
  spell_members (last_member n w u v x) y = 0x22 ∷ spell_chars n (0x22 ∷ spell_ws w (0x3A ∷ spell_ws u (spell_value v (spell_ws x (0x7D ∷ y)))))
  spell_members (jmember n w u v x z ms) y = 0x22 ∷ spell_chars n (0x22 ∷ spell_ws w (0x3A ∷ spell_ws u (spell_value v (spell_ws x (0x2C ∷ spell_ws z (spell_members ms y))))))

unfoldable pub spell : JText → Bytes
spell (jtext w v u) = spell_ws w (spell_value v (spell_ws u []))

-- ---- the meaning of a derivation
-- Digits after those that make n.
unfoldable pub digits_number : ℕ → Digits → ℕ
digits_number n no_digits = n
digits_number n (digit b h ds) = digits_number (n * 10 + digit_value b) ds

unfoldable pub int_number : Int → ℕ
int_number zero_int = 0
int_number (int b h ds) = digits_number (digit_value b) ds

-- A number is in our domain if it has neither fraction nor exponent and is within the limit (01, refusal 4).
unfoldable pub limited : Bool → ℕ → Option Value
limited negative n = elim (leb n max_integer) [ true ↦ Some (signed negative n) | false ↦ None ]

unfoldable pub plain : Bool → ℕ → Frac → Exp → Option Value
plain negative n no_frac no_exp = limited negative n
plain negative n no_frac (exp e h s b k ds) = None
plain negative n (frac b h ds) ex = None

unfoldable pub tail_bytes : {n lo hi : ℕ} → Tails n lo hi → Bytes
tail_bytes no_tail = []
tail_bytes (tail b h ts) = b ∷ tail_bytes ts

unfoldable pub hex_number : {n : ℕ} → ℕ → Hexes n → ℕ
hex_number u no_hexes = u
hex_number u (hex b d h hs) = hex_number (u * 16 + d) hs

unfoldable pub map : {A B : Type 0} → (A → B) → Option A → Option B
map f None = None
map f (Some a) = Some (f a)

unfoldable pub map₂ : {A B C : Type 0} → (A → B → C) → Option A → Option B → Option C
map₂ f None o = None
map₂ f (Some a) None = None
map₂ f (Some a) (Some b) = Some (f a b)

-- A string is in our domain if each surrogate escape has its partner: the second argument is a high one that stands just before.
unfoldable pub chars_meaning : Chars → Option ℕ → Option Bytes
chars_meaning no_chars None = Some []
chars_meaning no_chars (Some h) = None
chars_meaning (unescaped b n lo hi e ts cs) None = map (λ s. (b ∷ tail_bytes ts) ++ s) (chars_meaning cs None)
chars_meaning (unescaped b n lo hi e ts cs) (Some h) = None
chars_meaning (escaped b d e cs) None = map (λ s. (d ∷ []) ++ s) (chars_meaning cs None)
chars_meaning (escaped b d e cs) (Some h) = None
chars_meaning (code_unit_lem hs cs) None =
    elim (unit_of (hex_number 0 hs)) [
      | Plain ↦ map (λ s. utf8 (hex_number 0 hs) ++ s) (chars_meaning cs None)
      | High ↦ chars_meaning cs (Some (hex_number 0 hs))
      | Low ↦ None
    ]
chars_meaning (code_unit_lem hs cs) (Some h) =
    elim (unit_of (hex_number 0 hs)) [
      | Plain ↦ None
      | High ↦ None
      | Low ↦ map (λ s. utf8 (pair_of h (hex_number 0 hs)) ++ s) (chars_meaning cs None)
    ]

-- A name that is none of those seen, and those seen with it.
unfoldable pub fresh : List Bytes → Option Bytes → Option Bytes
fresh seen None = None
fresh seen (Some n) = elim (among n seen) [ true ↦ None | false ↦ Some n ]

unfoldable pub seen_with : List Bytes → Option Bytes → List Bytes
seen_with seen None = seen
seen_with seen (Some n) = seen ++ (n ∷ [])

unfoldable pub member_of : Option Bytes → Option Value → Option Members → Option Members
member_of None o ms = None
member_of (Some n) None ms = None
member_of (Some n) (Some v) None = None
member_of (Some n) (Some v) (Some ms) = Some (member n v ms)

unfoldable mutual
  pub value_meaning : JValue → Option Value
  value_meaning jtrue = Some (scalar (boolean true))
  value_meaning jfalse = Some (scalar (boolean false))
  value_meaning jnull = Some (scalar null)
  value_meaning (jnumber negative i fr ex) = plain negative (int_number i) fr ex
  value_meaning (jstring cs) = map (λ s. scalar (string s)) (chars_meaning cs None)
  value_meaning (jempty_array w) = Some (array no_items)
  value_meaning (jarray w es) = map array (elements_meaning es)
  value_meaning (jempty_object w) = Some (object no_members)
  value_meaning (jobject w ms) = map object (members_meaning ms [])

  pub elements_meaning : JElements → Option Values
  elements_meaning (last_element v w) = map (λ x. item x no_items) (value_meaning v)
  elements_meaning (element v w u es) = map₂ item (value_meaning v) (elements_meaning es)

  -- The names of an object differ: each is none of those before.
  pub members_meaning : JMembers → List Bytes → Option Members
  members_meaning (last_member n w u v x) seen = member_of (fresh seen (chars_meaning n None)) (value_meaning v) (Some no_members)
  members_meaning (jmember n w u v x z ms) seen = member_of (fresh seen (chars_meaning n None)) (value_meaning v) (members_meaning ms (seen_with seen (chars_meaning n None)))

unfoldable pub meaning : JText → Option Value
meaning (jtext w v u) = value_meaning v
