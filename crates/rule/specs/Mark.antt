-- Mark: what the shape check found each object of a rule's table T to be: a byte for each row, behind the rows.
use Rattle.std.specs.Prelude.{Option, None, Some}
use Rattle.std.specs.Prelude.{cond, List, [], ◌∷◌, ◌≡◌, ℕ, ◌+◌, ◌*◌, ◌≤◌, ◌<◌, eqb, length, get_or, set}
use Rattle.model.specs.Bytes.{Bytes}
use Rattle.model.specs.Limits.{max_values}
use Rattle.model.specs.Option.{or_else}
use Rattle.model.specs.declared.Comparison.{Comparison}
use Rattle.model.specs.declared.Comparison.TheVariants.{Greater, Less, GreaterOrEqual, LessOrEqual}
use Rattle.model.specs.declared.Domain.{Domain}
use Rattle.model.specs.declared.Domain.TheVariants.{OnIntegers, OnInstants}
use Rattle.model.specs.declared.TimeUnit.{TimeUnit}
use Rattle.model.specs.declared.TimeUnit.TheVariants.{Year, Month, Day, Hour}
use Rattle.syntax.specs.Layout.{row_bytes, rows_part, table_bytes}
use Rattle.keywords.specs.declared.Op.{Op}
use Rattle.keywords.specs.declared.Op.TheVariants as Ops
use Rattle.table.specs.declared.node.Node.{Node}
use Rattle.table.specs.declared.node.Node.TheVariants.{Null, False, True, Integer, String, Array, Object}
use Rattle.table.specs.declared.node.Rows.{Rows}
use Rattle.table.specs.Node.{node_at, next_row}
use Rattle.rule.specs.declared.view.Literal.TheVariants as Literals
use Rattle.rule.specs.declared.view.View.{View}
use Rattle.rule.specs.declared.view.View.TheVariants.{Literal, Var, If, And, Reduce, Apply}
use Rattle.rule.specs.View.{first_of, integer_of, object_on}

-- ---- where
-- The marks begin where the rows end.
abbrev pub marks_start : ℕ
marks_start = max_values * row_bytes

-- The mark of a row; 0 where the table ends before.
abbrev pub mark_at : Bytes → ℕ → ℕ
mark_at T row = get_or T (marks_start + row) 0

-- A table with a mark; as it was where it ends before.
abbrev pub with_mark : Bytes → ℕ → ℕ → Bytes
with_mark T row mark = set T (marks_start + row) mark

-- ---- numbers
-- Of an operation with operands in an array: that of a comparison tells its domain too, that of `plusTime` its unit. An array has none.
abbrev pub comparison_mark : Comparison → ℕ
comparison_mark Greater = 0
comparison_mark Less = 1
comparison_mark GreaterOrEqual = 2
comparison_mark LessOrEqual = 3

abbrev pub compare_mark : Domain → Comparison → ℕ
compare_mark OnIntegers c = 10 + comparison_mark c
compare_mark OnInstants c = 14 + comparison_mark c

abbrev pub unit_mark : TimeUnit → ℕ
unit_mark Year = 18
unit_mark Month = 19
unit_mark Day = 20
unit_mark Hour = 21

abbrev pub op_mark : Op → ℕ
op_mark Ops.Array = 0
op_mark Ops.Equal = 5
op_mark Ops.MemberOf = 6
op_mark Ops.Plus = 7
op_mark Ops.Not = 8
op_mark Ops.DateOfBirth = 9
op_mark (Ops.Compare d c) = compare_mark d c
op_mark (Ops.PlusTime n u) = unit_mark u
op_mark (Ops.ExtractFromUvci n) = 22

abbrev pub view_mark : View → ℕ
view_mark (Literal l) = 0
view_mark (Var p) = 1
view_mark (If q) = 2
view_mark (And q) = 3
view_mark (Reduce q) = 4
view_mark (Apply op q) = op_mark op

-- What is no rule is marked 0.
abbrev pub shape_mark : Option View → ℕ
shape_mark None = 0
shape_mark (Some w) = view_mark w

-- ---- and back
-- What has no mark is viewed as the literal false.
abbrev pub unmarked : View
unmarked = Literal Literals.False

-- The integer behind the first operand of `plusTime` and `extractFromUVCI`; 0 where none stands there.
abbrev pub bare_integer : Bytes → Rows → ℕ
bare_integer R q = or_else (integer_of (node_at R (next_row R q.first))) 0

abbrev pub compare_view : Domain → Comparison → Rows → View
compare_view d c q = Apply (Ops.Compare d c) q

abbrev pub plus_time_view : Bytes → TimeUnit → Rows → View
plus_time_view R u q = Apply (Ops.PlusTime (bare_integer R q) u) (first_of q)

abbrev pub extract_view : Bytes → Rows → View
extract_view R q = Apply (Ops.ExtractFromUvci (bare_integer R q)) (first_of q)

-- The view of operands in the rows R, at the place of its mark.
abbrev pub operands_views : Bytes → Rows → List View
operands_views R q =
    unmarked
    ∷ unmarked
    ∷ If q
    ∷ And q
    ∷ Reduce q
    ∷ Apply Ops.Equal q
    ∷ Apply Ops.MemberOf q
    ∷ Apply Ops.Plus q
    ∷ Apply Ops.Not q
    ∷ Apply Ops.DateOfBirth q
    ∷ compare_view OnIntegers Greater q
    ∷ compare_view OnIntegers Less q
    ∷ compare_view OnIntegers GreaterOrEqual q
    ∷ compare_view OnIntegers LessOrEqual q
    ∷ compare_view OnInstants Greater q
    ∷ compare_view OnInstants Less q
    ∷ compare_view OnInstants GreaterOrEqual q
    ∷ compare_view OnInstants LessOrEqual q
    ∷ plus_time_view R Year q
    ∷ plus_time_view R Month q
    ∷ plus_time_view R Day q
    ∷ plus_time_view R Hour q
    ∷ extract_view R q
    ∷ []

-- The view of an object with this mark and this content.
abbrev pub marked_view : Bytes → ℕ → Node → View
marked_view R mark Null = unmarked
marked_view R mark False = unmarked
marked_view R mark True = unmarked
marked_view R mark (Integer n) = unmarked
marked_view R mark (String s) = get_or (unmarked ∷ Var s ∷ []) mark unmarked
marked_view R mark (Array q) = get_or (operands_views R q) mark unmarked
marked_view R mark (Object q) = unmarked

-- The view of the object in a row, with these rows as its parts and so many nestings left.
abbrev pub object_view : Bytes → ℕ → Rows → ℕ → View
object_view T row q deep = cond (eqb deep 0) unmarked (marked_view (rows_part T) (mark_at T row) (node_at (rows_part T) q.first))

-- ---- a table with marks
-- Every object has the mark of the operation that it is.
pub record Marked (T B : Bytes) : Type 0 where
  pub size : table_bytes ≤ length T
  pub marks : (row : ℕ) (q : Rows) → row < max_values → node_at T row ≡ Object q → mark_at T row ≡ shape_mark (object_on (rows_part T) B q)
