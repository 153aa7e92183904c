-- Layout: the read form of a value, the bytes that a table and a strings area hold after success (docs/LAYOUT.md).
-- Both are functions of the value alone. Widths: 24 bits for the length of a name, 32 for offsets, rows and counts (enough for 02, P12).
use Rattle.std.specs.Prelude.{true, false, [], ◌∷◌, ◌++◌, ℕ, suc, ◌+◌, ◌*◌, ◌-◌, ◌/◌, ◌%◌, leb, ℤ, pos, negsuc, length, replicate, take}
use Rattle.area.specs.Words.{word}
use Rattle.model.specs.Bytes.{Bytes}
use Rattle.model.specs.Limits.{max_text_bytes, max_values}
use Rattle.model.specs.Size.{value_count, items_count, members_count}
use Rattle.model.specs.Value.{Value, scalar, instant, array, object, Scalar, null, boolean, integer, string, Values, no_items, item, Members, no_members, member, member_count}

-- ---- sizes
-- A row of the table, and an entry of the index of names behind the rows: work room of reading, zero afterwards.
unfoldable pub row_bytes : ℕ
row_bytes = 16

unfoldable pub entry_bytes : ℕ
entry_bytes = 8

abbrev pub table_bytes : ℕ
table_bytes = max_values * (row_bytes + entry_bytes)

abbrev pub strings_bytes : ℕ
strings_bytes = max_text_bytes

-- ---- strings
-- The decoded bytes of all names and strings in the order of the text, a member's name before its content.
unfoldable mutual
  pub strings_of : Value → Bytes
  strings_of (scalar null) = []
  strings_of (scalar (boolean b)) = []
  strings_of (scalar (integer z)) = []
  strings_of (scalar (string s)) = s
  strings_of (instant t) = []
  strings_of (array vs) = item_strings vs
  strings_of (object ms) = member_strings ms

  pub item_strings : Values → Bytes
  item_strings no_items = []
  item_strings (item v vs) = strings_of v ++ item_strings vs

  pub member_strings : Members → Bytes
  member_strings no_members = []
  member_strings (member n v ms) = n ++ (strings_of v ++ member_strings ms)

-- ---- rows
-- Where a member's name lies in the strings area; 0 and 0 for a value that is no member.
pub record Label : Type 0 where
  pub start : ℕ
  pub size : ℕ

abbrev pub unnamed : Label
unnamed = record { start = 0; size = 0 }

-- Four numbers of 32 bits, lowest byte first: the kind and above it the name's length, the name's start, and two by the kind.
unfoldable pub row : ℕ → Label → ℕ → ℕ → Bytes
row kind name a b = word (kind + 256 * name.size) ++ (word name.start ++ (word a ++ word b))

-- An integer as an unsigned number of 64 bits: 2^53 is added.
unfoldable pub biased : ℤ → ℕ
biased (pos n) = 9007199254740992 + n
biased (negsuc n) = 9007199254740992 - suc n

-- And back.
unfoldable pub unbiased : ℕ → ℤ
unbiased n = elim (leb 9007199254740992 n) [ true ↦ pos (n - 9007199254740992) | false ↦ negsuc (9007199254740991 - n) ]

unfoldable pub item_count : Values → ℕ
item_count no_items = 0
item_count (item v vs) = suc (item_count vs)

-- Kinds: 1 null, 2 false, 3 true, 4 an integer, 5 a string, 6 an array, 7 an object. (An instant is in no text; its number is free.)
-- The second two numbers: of an integer its low and high half; of a string its start and length; of an array or object how many items or
-- members it has, and the row after its last. `at` is the value's row, `used` the strings' bytes before it.
unfoldable pub scalar_row : Scalar → ℕ → Label → Bytes
scalar_row null used name = row 1 name 0 0
scalar_row (boolean false) used name = row 2 name 0 0
scalar_row (boolean true) used name = row 3 name 0 0
scalar_row (integer z) used name = row 4 name (biased z % 4294967296) (biased z / 4294967296)
scalar_row (string s) used name = row 5 name used (length s)

unfoldable mutual
  pub rows_of : Value → ℕ → ℕ → Label → Bytes
  rows_of (scalar x) at used name = scalar_row x used name
  rows_of (instant t) at used name = row 0 name 0 0
  rows_of (array vs) at used name = row 6 name (item_count vs) (at + 1 + items_count vs) ++ item_rows vs (at + 1) used
  rows_of (object ms) at used name = row 7 name (member_count ms) (at + 1 + members_count ms) ++ member_rows ms (at + 1) used

  pub item_rows : Values → ℕ → ℕ → Bytes
  item_rows no_items at used = []
  item_rows (item v vs) at used = rows_of v at used unnamed ++ item_rows vs (at + value_count v) (used + length (strings_of v))

  pub member_rows : Members → ℕ → ℕ → Bytes
  member_rows no_members at used = []
  member_rows (member n v ms) at used =
      rows_of v at (used + length n) (record { start = used; size = length n }) ++
      member_rows ms (at + value_count v) (used + length n + length (strings_of v))

-- ---- areas
-- Bytes at the start of an area of n bytes, and zeros after them.
unfoldable pub padded : ℕ → Bytes → Bytes
padded n bs = bs ++ replicate (n - length bs) 0

-- The rows of a table, without what lies behind them: work room during a call, zero afterwards.
unfoldable pub rows_part : Bytes → Bytes
rows_part T = take (max_values * row_bytes) T

abbrev pub table_of : Value → ℕ → Bytes
table_of v n = padded n (rows_of v 0 0 unnamed)

abbrev pub strings_area_of : Value → ℕ → Bytes
strings_area_of v n = padded n (strings_of v)
