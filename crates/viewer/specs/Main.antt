-- Main: the theorems of the viewer, restated with nothing else; the proofs are in Laws.
-- `Shows T S place v`: on the table T, with the strings area S, walking by the viewer from a place sees the whole value v and nothing else.
use Rattle.std.specs.Prelude.{Some}
use Rattle.std.specs.Prelude.{◌≡◌, ℕ, ◌+◌, ◌≤◌, ◌<◌, T as Holds, ℤ}
use Rattle.model.specs.Bytes.{Bytes}
use Rattle.model.specs.Value.{Value, within_limits}
use Rattle.syntax.specs.Layout.{table_bytes, strings_bytes, table_of, strings_area_of}
use Rattle.syntax.specs.Read.{done, read}
use Rattle.table.specs.declared.row.Span.{Span}
use Rattle.viewer.specs.Answer.{Seen, seen_of, name_of, integer_of, string_of}
use Rattle.viewer.specs.Inside.{Inside}
use Rattle.table.specs.Row.{numbers_at}
use Rattle.viewer.specs.Row.{row_count, end_of}
use Rattle.viewer.specs.Shows.{Shows, ShowsText}
use Rattle.viewer.specs.View.{row_seen, part_seen}
use Rattle.viewer.specs.Laws.ReadForm as ReadFormLaws
use Rattle.viewer.specs.Laws.Told as ToldLaws

-- ---- of a table that was read
-- What reading leaves in its areas shows the value that was read, from the first row.
pub read_shown :
    (s : Bytes) (v : Value) (T S : Bytes) (n m : ℕ)
    → read s ≡ done v
    → table_bytes ≤ n
    → T ≡ table_of v n
    → S ≡ strings_area_of v m
    → ShowsText T S v
read_shown = ReadFormLaws.text_shown

-- The viewer shows one value at a place.
pub one_shown : (T S : Bytes) (place : ℕ) (v w : Value) → Shows T S place v → Shows T S place w → v ≡ w
one_shown T S place v w s t = ReadFormLaws.one T S s t

-- ---- of any bytes as a table
-- A kind that is told is one of the seven, and a count is below the number of rows.
pub kind_within : (T : Bytes) (place : ℕ) (s : Seen) → seen_of (row_seen T place) ≡ Some s → (1 ≤ s.kind) × (s.kind ≤ 7) × (s.count < row_count T)
kind_within = ToldLaws.kind_within

-- A name and a string that are told lie within the stated size of a strings area.
pub name_within : (T : Bytes) (place : ℕ) (p : Span) → name_of (row_seen T place) ≡ Some p → p.start + p.size ≤ strings_bytes
name_within = ToldLaws.name_within

pub string_within : (T : Bytes) (place : ℕ) (p : Span) → string_of (row_seen T place) ≡ Some p → p.start + p.size ≤ strings_bytes
string_within = ToldLaws.string_within

-- An integer that is told is within the limits.
pub integer_within : (T : Bytes) (place : ℕ) (z : ℤ) → integer_of (row_seen T place) ≡ Some z → Holds (within_limits z)
integer_within = ToldLaws.integer_within

-- A part that is told lies behind its container and ends within it: so a walk down from part to part ends.
pub part_inside : (T : Bytes) (place nth p : ℕ) → part_seen T place nth ≡ Some p → (place < p) × Inside T p (end_of place (numbers_at T place))
part_inside = ToldLaws.part_inside
