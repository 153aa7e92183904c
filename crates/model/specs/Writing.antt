-- Writing: a value's text. 01, Writing: "No spaces; members in their order; escapes as in RFC 8785, section 3.2.2.2. An instant's text
-- is a fixed record of 24 bytes, written as a string".
use Rattle.std.specs.Prelude.{true, false, cond, List, [], ◌∷◌, ◌++◌, ℕ, zero, suc, ◌/◌, ◌%◌, eqb, ltb, ℤ, pos, negsuc, get_or}
use Rattle.model.specs.Bytes.{Bytes, ascii, digit_byte}
use Rattle.model.specs.InstantText.{instant_text}
use Rattle.model.specs.Lists.{find}
use Rattle.model.specs.Option.{or_else}
use Rattle.model.specs.Value.{Value, scalar, instant, array, object, Scalar, null, boolean, integer, string, Values, no_items, item, Members, no_members, member}

-- ---- integers: decimal digits without leading zeros
-- The fuel k is a bound of the number of digits but one.
abbrev pub decimal_within : ℕ → ℕ → Bytes
decimal_within zero n = digit_byte n ∷ []
decimal_within (suc k) n =
    let more = decimal_within k (n / 10) ++ (digit_byte n ∷ []) in
    cond (ltb n 10) (digit_byte n ∷ []) more

unfoldable pub decimal : ℕ → Bytes
decimal n = decimal_within n n

abbrev pub integer_text : ℤ → Bytes
integer_text (pos n) = decimal n
integer_text (negsuc n) = ascii "-" ++ decimal (suc n)

-- ---- strings
-- RFC 8785, 3.2.2.2: the control characters and the two others with an escape of two characters.
abbrev pub short_escapes : List (ℕ × Bytes)
short_escapes =
    (0x08, ascii "\\b")
    ∷ (0x09, ascii "\\t")
    ∷ (0x0a, ascii "\\n")
    ∷ (0x0c, ascii "\\f")
    ∷ (0x0d, ascii "\\r")
    ∷ (0x22, ascii "\\\"")
    ∷ (0x5c, ascii "\\\\")
    ∷ []

-- "\u00hh", in lower-case hexadecimal.
abbrev pub hex_digit : ℕ → ℕ
hex_digit d = get_or (ascii "0123456789abcdef") d 0

abbrev pub long_escape : ℕ → Bytes
long_escape x = ascii "\\u00" ++ (hex_digit (x / 16) ∷ hex_digit (x % 16) ∷ [])

-- Control characters (below 0x20) that have no short escape get the long one; every other byte stands as it is.
abbrev pub escaped : ℕ → Bytes
escaped x = or_else (find (eqb x) short_escapes) (cond (ltb x 0x20) (long_escape x) (x ∷ []))

abbrev pub escaped_all : Bytes → Bytes
escaped_all [] = []
escaped_all (x ∷ s) = escaped x ++ escaped_all s

abbrev pub string_text : Bytes → Bytes
string_text s = ascii "\"" ++ (escaped_all s ++ ascii "\"")

-- ---- values
abbrev pub scalar_text : Scalar → Bytes
scalar_text null = ascii "null"
scalar_text (boolean true) = ascii "true"
scalar_text (boolean false) = ascii "false"
scalar_text (integer z) = integer_text z
scalar_text (string s) = string_text s

-- Items and members: a comma stands before each but the first, which has nothing before it.
unfoldable mutual
  pub value_text : Value → Bytes
  value_text (scalar x) = scalar_text x
  value_text (instant t) = string_text (instant_text t)
  value_text (array vs) = ascii "[" ++ (items_text vs [] ++ ascii "]")
  value_text (object ms) = ascii "{" ++ (members_text ms [] ++ ascii "}")

  pub items_text : Values → Bytes → Bytes
  items_text no_items before = []
  items_text (item v vs) before = before ++ (value_text v ++ items_text vs (ascii ","))

  pub members_text : Members → Bytes → Bytes
  members_text no_members before = []
  members_text (member name v ms) before = before ++ (string_text name ++ (ascii ":" ++ (value_text v ++ members_text ms (ascii ","))))
