-- Writing: sentences of 01, Writing, by computation.
use Rattle.std.specs.Prelude.{◌≡◌, refl, true, false, [], ◌∷◌, pos, negsuc}
use Prim.Native.String.{String}
use Rattle.model.specs.Bytes.{Bytes, ascii}
use Rattle.model.specs.Calendar.{months, sum_first, year_start, date_of_day}
use Rattle.model.specs.InstantText.{instant_text}
use Rattle.model.specs.Value.{Value, scalar, instant, array, object, null, boolean, integer, string, no_items, item, no_members, member}
use Rattle.model.specs.Writing.{decimal, value_text}

abbrev writes : Value → String → Type 0
writes v s = value_text v ≡ ascii s

abbrev writes_string : Bytes → String → Type 0
writes_string t s = writes (scalar (string t)) s

pub rows_scalars :
    writes (scalar null) "null"
    × writes (scalar (boolean true)) "true"
    × writes (scalar (boolean false)) "false"
    × writes (scalar (integer (pos 0))) "0"
    × writes (scalar (integer (pos 9007199254740991))) "9007199254740991"
    × writes (scalar (integer (negsuc 0))) "-1"
    × writes (scalar (integer (negsuc 9007199254740990))) "-9007199254740991"
unfolding value_text decimal
rows_scalars = (refl, refl, refl, refl, refl, refl, refl)

-- "escapes as in RFC 8785, section 3.2.2.2": the seven short ones, the long one of other control characters, and none of any other byte.
pub rows_strings :
    writes_string [] "\"\""
    × writes_string (0x08 ∷ 0x09 ∷ 0x0A ∷ 0x0C ∷ 0x0D ∷ []) "\"\\b\\t\\n\\f\\r\""
    × writes_string (ascii "\"/\\") "\"\\\"/\\\\\""
    × writes_string (0x00 ∷ 0x0B ∷ 0x1F ∷ []) "\"\\u0000\\u000b\\u001f\""
    × (value_text (scalar (string (0x7F ∷ 0xC2 ∷ 0x80 ∷ []))) ≡ 0x22 ∷ 0x7F ∷ 0xC2 ∷ 0x80 ∷ 0x22 ∷ [])
unfolding value_text
rows_strings = (refl, refl, refl, refl, refl)

abbrev one : Value
one = scalar (integer (pos 1))

-- "No spaces; members in their order": here the greater name before the smaller.
pub rows_compound :
    writes (array no_items) "[]"
    × writes (array (item one (item (array (item one (item one no_items))) no_items))) "[1,[1,1]]"
    × writes (object no_members) "{}"
    × writes (object (member (ascii "b") one (member (ascii "a\"") (object no_members) no_members))) "{\"b\":1,\"a\\\"\":{}}"
unfolding value_text decimal
rows_compound = (refl, refl, refl, refl)

-- "An instant's text is a fixed record of 24 bytes, written as a string"
pub row_instant : writes (instant (negsuc 0)) "\"1969-12-31T23:59:59.999Z\""
unfolding value_text instant_text date_of_day year_start months sum_first
row_instant = refl
