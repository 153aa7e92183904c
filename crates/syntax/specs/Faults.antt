-- Faults: the faults 3 to 5 of a text of RFC 8259, each with its place, in the text's order; and what a refusal says of any bytes (01, Reading).
-- `at` is the place of the part's first byte; the place of what follows a part is `at` and the number of bytes that stand between.
use Rattle.std.specs.Prelude.{◌≡◌, true, false, ℕ, suc, ◌+◌, ◌*◌, ◌≤◌, ◌<◌, leb, length, take, drop}
use mathlib.Core.List.{List, [], ◌∷◌, ◌++◌, Memᴰ}
use Rattle.std.specs.Prelude.{Option, None, Some}
use Rattle.model.specs.Bytes.{Bytes}
use Rattle.model.specs.Limits.{max_text_bytes, max_values, max_nesting, max_integer}
use Rattle.model.specs.declared.refusal.ReadFault.{ReadFault}
use Rattle.model.specs.declared.refusal.ReadFault.TheVariants.{NotJson as not_json, RepeatedName, LoneSurrogate, BadNumber, TooLarge}
use Rattle.syntax.specs.declared.Unit.TheVariants.{Plain, High, Low}
use Rattle.syntax.specs.Grammar.{Digits, no_digits, digit, Int, zero_int, int, Frac, no_frac, frac, Exp, no_exp, exp, Hexes, Chars, no_chars, unescaped, escaped, code_unit_lem, JValue, jtrue, jfalse, jnull, jnumber, jstring, jempty_array, jarray, jempty_object, jobject, JElements, last_element, element, JMembers, last_member, jmember, JText, jtext, spell_ws, spell_int, spell_frac, spell_minus, spell_hexes, spell_chars, spell_value, spell, hex_number, chars_meaning, seen_with, meaning}
use Rattle.syntax.specs.Read.{among, Read, done, refuse}
use Rattle.syntax.specs.Tokens.{digit_value}
use Rattle.syntax.specs.Utf8.{unit_of}

pub data Fault : Type 0 where
  fault : ReadFault → ℕ → Fault

-- ---- 4: "the dot, the e or E, or the digit that first passes the limit"
-- Digits after those that make n.
unfoldable pub faults_digits : ℕ → Digits → ℕ → List Fault
faults_digits n no_digits at = []
faults_digits n (digit b h ds) at =
    elim (leb (n * 10 + digit_value b) max_integer) [
      | true ↦ faults_digits (n * 10 + digit_value b) ds (suc at)
      | false ↦ fault BadNumber at ∷ []
    ]

unfoldable pub faults_int : Int → ℕ → List Fault
faults_int zero_int at = []
faults_int (int b h ds) at = faults_digits (digit_value b) ds (suc at)

unfoldable pub faults_frac : Frac → ℕ → List Fault
faults_frac no_frac at = []
faults_frac (frac b h ds) at = fault BadNumber at ∷ []

unfoldable pub faults_exp : Exp → ℕ → List Fault
faults_exp no_exp at = []
faults_exp (exp e h s b k ds) at = fault BadNumber at ∷ []

unfoldable pub faults_number : Int → Frac → Exp → ℕ → List Fault
faults_number i fr ex at = faults_int i at ++ (faults_frac fr (at + length (spell_int i [])) ++ faults_exp ex (at + length (spell_int i (spell_frac fr []))))

-- ---- 3: "the backslash of a complete surrogate escape that has no partner (a high one followed at once by a complete low one is a pair)"
-- `before` is the place of the backslash of a high one that stands just before, if one does. It is alone if anything but a low one follows;
unfoldable pub alone_high : Option ℕ → List Fault
alone_high None = []
alone_high (Some p) = fault LoneSurrogate p ∷ []

-- a low one is alone if none stands before it.
unfoldable pub alone_low : Option ℕ → ℕ → List Fault
alone_low None at = fault LoneSurrogate at ∷ []
alone_low (Some p) at = []

unfoldable pub faults_chars : Chars → Option ℕ → ℕ → List Fault
faults_chars no_chars before at = alone_high before
faults_chars (unescaped b n lo hi h ts cs) before at = alone_high before ++ faults_chars cs None (at + suc n)
faults_chars (escaped b d h cs) before at = alone_high before ++ faults_chars cs None (at + 2)
faults_chars (code_unit_lem hs cs) before at =
    elim (unit_of (hex_number 0 hs)) [
      | Plain ↦ alone_high before ++ faults_chars cs None (at + 6)
      | High ↦ alone_high before ++ faults_chars cs (Some at) (at + 6)
      | Low ↦ alone_low before at ++ faults_chars cs None (at + 6)
    ]

-- ---- 3: "the closing quote of the second equal name"
-- A name that is one of those seen, its closing quote at this place. (A name with a lone surrogate is equal to none, and has its fault before.)
unfoldable pub repeated_at : List Bytes → Option Bytes → ℕ → List Fault
repeated_at seen None at = []
repeated_at seen (Some n) at = elim (among n seen) [ true ↦ fault RepeatedName at ∷ [] | false ↦ [] ]

unfoldable pub faults_name : List Bytes → Chars → ℕ → List Fault
faults_name seen n at = faults_chars n None at ++ repeated_at seen (chars_meaning n None) (at + length (spell_chars n []))

-- ---- 5: "the opening bracket of the 33rd nesting, or the first byte of the 1,025th value"
-- Further brackets and values are listed too; they stand after these. `row` values have begun before this one;
unfoldable pub many_at : ℕ → ℕ → List Fault
many_at row at = elim (leb max_values row) [ true ↦ fault TooLarge at ∷ [] | false ↦ [] ]

-- `depth` arrays and objects are open.
unfoldable pub deep_at : ℕ → ℕ → List Fault
deep_at depth at = elim (leb max_nesting depth) [ true ↦ fault TooLarge at ∷ [] | false ↦ [] ]

-- How many values a derivation has; "Names are not values."
unfoldable mutual
  pub count_value : JValue → ℕ
  count_value jtrue = 1
  count_value jfalse = 1
  count_value jnull = 1
  count_value (jnumber negative i fr ex) = 1
  count_value (jstring cs) = 1
  count_value (jempty_array w) = 1
  count_value (jarray w es) = suc (count_elements es)
  count_value (jempty_object w) = 1
  count_value (jobject w ms) = suc (count_members ms)

  pub count_elements : JElements → ℕ
  count_elements (last_element v w) = count_value v
  count_elements (element v w u es) = count_value v + count_elements es

  pub count_members : JMembers → ℕ
  count_members (last_member n w u v x) = count_value v
  count_members (jmember n w u v x z ms) = count_value v + count_members ms

-- ---- all of them
unfoldable mutual
  pub faults_value : JValue → ℕ → ℕ → ℕ → List Fault
  faults_value jtrue row depth at = many_at row at
  faults_value jfalse row depth at = many_at row at
  faults_value jnull row depth at = many_at row at
  faults_value (jnumber negative i fr ex) row depth at = many_at row at ++ faults_number i fr ex (at + length (spell_minus negative []))
  faults_value (jstring cs) row depth at = many_at row at ++ faults_chars cs None (suc at)
  faults_value (jempty_array w) row depth at = many_at row at ++ deep_at depth at
  faults_value (jarray w es) row depth at = many_at row at ++ (deep_at depth at ++ faults_elements es (suc row) (suc depth) (at + length (0x5B ∷ spell_ws w [])))
  faults_value (jempty_object w) row depth at = many_at row at ++ deep_at depth at
  faults_value (jobject w ms) row depth at = many_at row at ++ (deep_at depth at ++ faults_members ms (suc row) (suc depth) [] (at + length (0x7B ∷ spell_ws w [])))

  pub faults_elements : JElements → ℕ → ℕ → ℕ → List Fault
  faults_elements (last_element v w) row depth at = faults_value v row depth at
  faults_elements (element v w u es) row depth at =
      faults_value v row depth at ++
      faults_elements es (row + count_value v) depth (at + length (spell_value v (spell_ws w (0x2C ∷ spell_ws u []))))

  -- `seen` are the names before in the object.
  pub faults_members : JMembers → ℕ → ℕ → List Bytes → ℕ → List Fault
  faults_members (last_member n w u v x) row depth seen at =
      faults_name seen n (suc at) ++ faults_value v row depth (at + length (0x22 ∷ spell_chars n (0x22 ∷ spell_ws w (0x3A ∷ spell_ws u []))))
  faults_members (jmember n w u v x z ms) row depth seen at =
      faults_name seen n (suc at) ++
      (faults_value v row depth (at + length (0x22 ∷ spell_chars n (0x22 ∷ spell_ws w (0x3A ∷ spell_ws u [])))) ++
      faults_members ms (row + count_value v) depth (seen_with seen (chars_meaning n None))
      (at + length (0x22 ∷ spell_chars n (0x22 ∷ spell_ws w (0x3A ∷ spell_ws u (spell_value v (spell_ws x (0x2C ∷ spell_ws z []))))))))

unfoldable pub faults : JText → List Fault
faults (jtext w v u) = faults_value v 0 0 (length (spell_ws w []))

abbrev pub place_of : Fault → ℕ
place_of (fault k p) = p

-- A text of RFC 8259 is read as its meaning if it has no fault, and refused with its first fault if it has one.
abbrev pub FirstFault : JText → Read → Type 0
FirstFault d (done v) = (faults d ≡ []) × (meaning d ≡ Some v)
FirstFault d (refuse k p) = (others : List Fault) × (faults d ≡ fault k p ∷ others)

-- ---- any bytes
-- These bytes begin a text of RFC 8259.
abbrev pub Begins : Bytes → Type 0
Begins m = (d : JText) × (rest : Bytes) × (spell d ≡ m ++ rest)

-- "Place of 2: the first byte with which the text no longer begins any RFC 8259 text, or the text's length if it ends too early."
pub record NotJson (s : Bytes) (p : ℕ) : Type 0 where
  pub inside : p ≤ length s
  pub before : Begins (take p s)
  pub ends : p < length s → Begins (take (suc p) s) → ⊥
  pub no_text : (d : JText) → spell d ≡ s → ⊥

-- "Over-long text is refused first, at place 16,384."
abbrev pub OverLong : Bytes → ReadFault → ℕ → Type 0
OverLong s k p = (k ≡ TooLarge) × (p ≡ max_text_bytes) × (max_text_bytes < length s)

-- The escape of a code unit: \u and four hexadecimal digits.
abbrev pub spell_unit : Hexes 4 → Bytes → Bytes
spell_unit hs y = 0x5C ∷ 0x75 ∷ spell_hexes hs y

-- "a high one followed at once by a complete low one is a pair"
pub record Pair (t : Bytes) : Type 0 where
  pub high : Hexes 4
  pub low : Hexes 4
  pub rest : Bytes
  pub begins : t ≡ spell_unit high (spell_unit low rest)
  pub is_high : unit_of (hex_number 0 high) ≡ High
  pub is_low : unit_of (hex_number 0 low) ≡ Low

-- "a complete surrogate escape that has no partner": one begins here, and no pair does.
pub record Lone (t : Bytes) : Type 0 where
  pub escape : Hexes 4
  pub rest : Bytes
  pub begins : t ≡ spell_unit escape rest
  pub surrogate : unit_of (hex_number 0 escape) ≡ Plain → ⊥
  pub no_pair : Pair t → ⊥

-- The bytes through a fault: those before the place of 2; those through the place; of a lone surrogate those through the whole escape,
abbrev pub reach : ReadFault → ℕ → ℕ
reach not_json p = p
reach RepeatedName p = suc p
reach LoneSurrogate p = p + 6
reach BadNumber p = suc p
reach TooLarge p = suc p

-- which begins no pair.
abbrev pub Unpaired : ReadFault → Bytes → Type 0
Unpaired not_json t = Unit {0}
Unpaired RepeatedName t = Unit {0}
Unpaired LoneSurrogate t = Pair t → ⊥
Unpaired BadNumber t = Unit {0}
Unpaired TooLarge t = Unit {0}

-- "Faults 3 to 5 count only if the bytes through their place still begin an RFC 8259 text":
-- some text of RFC 8259 begins with the bytes of s through the fault, and this is its first fault.
pub record Stated (s : Bytes) (k : ReadFault) (p : ℕ) : Type 0 where
  pub inside : reach k p ≤ length s
  pub tree : JText
  pub rest : Bytes
  pub begins : spell tree ≡ take (reach k p) s ++ rest
  pub others : List Fault
  pub first : faults tree ≡ fault k p ∷ others
  pub unpaired : Unpaired k (drop p s)

-- The same of any fault of that text, be it the first or not.
pub record Has (s : Bytes) (k : ReadFault) (p : ℕ) : Type 0 where
  pub inside : reach k p ≤ length s
  pub tree : JText
  pub rest : Bytes
  pub begins : spell tree ≡ take (reach k p) s ++ rest
  pub listed : Memᴰ (fault k p) (faults tree)
  pub unpaired : Unpaired k (drop p s)
