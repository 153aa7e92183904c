-- Areas: the two work areas that are lent for a text, before and after.
use Rattle.std.specs.Prelude.{Bool, ◌*◌, length, replicate}
use Rattle.area.specs.Words.{zero_from}
use Rattle.model.specs.Bytes.{Bytes}
use Rattle.model.specs.Limits.{max_values}
use Rattle.model.specs.Value.{Value}
use Rattle.syntax.specs.Entry.{too_short, ReadAnswer, read_into}
use Rattle.syntax.specs.Layout.{row_bytes, table_of, strings_area_of}
use Rattle.syntax.specs.Read.{read}
use Rattle.table.specs.WasRead.{WasRead}
use Rattle.name_index.specs.Table.{IndexedTable}
use Rattle.rule.specs.Mark.{Marked}

-- 01, Work room: "each read text has a table for 1,024 values and a text area of 16,384 bytes".
pub record TextAreas : Type 0 where
  pub table : Bytes
  pub strings : Bytes

abbrev pub text_areas : Bytes → Bytes → TextAreas
text_areas T A = record { table = T; strings = A }

-- Refusal 1: "a work area below its stated size".
abbrev pub is_short : TextAreas → Bool
is_short a = too_short a.table a.strings

-- "Every other refusal leaves all work areas .. zero."
abbrev pub zeroed : TextAreas → TextAreas
zeroed a = text_areas (replicate (length a.table) 0) (replicate (length a.strings) 0)

-- "After success the areas hold the read form described in docs/ .. and every unused byte is zero."
abbrev pub holding : Value → TextAreas → TextAreas
holding v a = text_areas (table_of v (length a.table)) (strings_area_of v (length a.strings))

-- The areas as reading a text leaves them: holding its value, or zero.
abbrev pub read_areas_of : ReadAnswer → TextAreas
read_areas_of r = text_areas r.table r.strings

abbrev pub left_by : Bytes → TextAreas → TextAreas
left_by s a = read_areas_of (read_into (read s) (length a.table) (length a.strings))

-- ---- until the call ends
-- The areas once the work room behind the table's rows is cleared.
abbrev pub tidied : TextAreas → TextAreas
tidied a = text_areas (zero_from (max_values * row_bytes) a.table) a.strings

-- Until then the areas of a sheet or a record hold its value, and the index of its names;
pub record HoldsIndexed (v : Value) (a : TextAreas) : Type 0 where
  pub was_read : WasRead a.table a.strings v
  pub indexed : IndexedTable a.table a.strings

-- those of a rule hold its value, and the marks of its operations.
pub record HoldsMarked (v : Value) (a : TextAreas) : Type 0 where
  pub was_read : WasRead a.table a.strings v
  pub marked : Marked a.table a.strings
