-- View: what stands at a row of a rule's table T, with strings B, whatever these bytes are. Contract says what it is of a row that denotes a value.
-- A row has the shape of the view of an operation or a literal; none where it is no rule.
use Rattle.std.specs.Prelude.{cond, ℕ, eqb, ltb}
use Rattle.std.specs.Prelude.{Option, None, Some}
use Rattle.model.specs.Bytes.{Bytes}
use Rattle.model.specs.Option.{◌>>=◌, when, or_else}
use Rattle.model.specs.Shape.{keyword_named, unit_named}
use Rattle.model.specs.declared.TimeUnit.{TimeUnit}
use Rattle.syntax.specs.Layout.{rows_part}
use Rattle.keywords.specs.declared.Keyword.{Keyword}
use Rattle.keywords.specs.declared.Keyword.TheVariants as Keywords
use Rattle.keywords.specs.declared.Op.TheVariants as Ops
use Rattle.keywords.specs.Contract.{keyword_for}
use Rattle.table.specs.declared.node.Node.{Node}
use Rattle.table.specs.declared.node.Node.TheVariants.{Null, False, True, Integer, String, Array, Object}
use Rattle.table.specs.declared.node.Rows.{Rows}
use Rattle.table.specs.declared.row.Span.{Span}
use Rattle.table.specs.Node.{rows, node_at, next_row, name_at}
use Rattle.table.specs.Strings.{bytes_of}
use Rattle.rule.specs.declared.view.Literal.TheVariants as Literals
use Rattle.rule.specs.declared.view.View.{View}
use Rattle.rule.specs.declared.view.View.TheVariants.{Literal, Var, If, And, Reduce, Apply}

-- ---- the single member
-- Its name and its content, if there is no other.
abbrev pub single_of : Bytes → Rows → Option (Span × Node)
single_of T q = when (eqb q.count 1) (Some (name_at T q.first, node_at T q.first))

-- ---- operands
abbrev pub counted_on : ℕ → ℕ → View → Rows → Option View
counted_on least most w q = cond (ltb q.count least) None (cond (ltb most q.count) None (Some w))

abbrev pub and_on : Rows → Option View
and_on q = cond (ltb q.count 2) None (Some (And q))

abbrev pub first_of : Rows → Rows
first_of q = rows q.first 1

abbrev pub integer_of : Node → Option ℕ
integer_of Null = None
integer_of False = None
integer_of True = None
integer_of (Integer n) = Some n
integer_of (String s) = None
integer_of (Array p) = None
integer_of (Object p) = None

abbrev pub unit_at : Bytes → Node → Option TimeUnit
unit_at B Null = None
unit_at B False = None
unit_at B True = None
unit_at B (Integer n) = None
unit_at B (String s) = unit_named (bytes_of B s)
unit_at B (Array p) = None
unit_at B (Object p) = None

abbrev pub plus_time_by : Option ℕ → Option TimeUnit → Rows → Option View
plus_time_by amount unit q = do
  n ← amount
  u ← unit
  Some (Apply (Ops.PlusTime n u) (first_of q))

abbrev pub plus_time_on : Bytes → Bytes → Rows → Option View
plus_time_on T B q =
    let second = next_row T q.first in
    when (eqb q.count 3) (plus_time_by (integer_of (node_at T second)) (unit_at B (node_at T (next_row T second))) q)

abbrev pub extract_by : Option ℕ → Rows → Option View
extract_by index q = do
  n ← index
  Some (Apply (Ops.ExtractFromUvci n) (first_of q))

abbrev pub extract_on : Bytes → Rows → Option View
extract_on T q = when (eqb q.count 2) (extract_by (integer_of (node_at T (next_row T q.first))) q)

-- ---- an operation by its keyword and its content
abbrev pub path_on : Keyword → Span → Option View
path_on Keywords.Var s = Some (Var s)
path_on Keywords.If s = None
path_on Keywords.Reduce s = None
path_on Keywords.And s = None
path_on Keywords.PlusTime s = None
path_on Keywords.ExtractFromUvci s = None
path_on (Keywords.Counted least most op) s = None

abbrev pub operands_on : Bytes → Bytes → Keyword → Rows → Option View
operands_on T B Keywords.Var q = None
operands_on T B Keywords.If q = counted_on 3 3 (If q) q
operands_on T B Keywords.Reduce q = counted_on 3 3 (Reduce q) q
operands_on T B Keywords.And q = and_on q
operands_on T B Keywords.PlusTime q = plus_time_on T B q
operands_on T B Keywords.ExtractFromUvci q = extract_on T q
operands_on T B (Keywords.Counted least most op) q = counted_on least most (Apply op q) q

abbrev pub content_on : Bytes → Bytes → Keyword → Node → Option View
content_on T B k Null = None
content_on T B k False = None
content_on T B k True = None
content_on T B k (Integer n) = None
content_on T B k (String s) = path_on k s
content_on T B k (Array q) = operands_on T B k q
content_on T B k (Object q) = None

-- ---- a row
-- An object: by the keyword that its single member's name is, and that member's content.
abbrev pub member_on : Bytes → Bytes → Option (Span × Node) → Option View
member_on T B None = None
member_on T B (Some m) = keyword_for (keyword_named (bytes_of B m.0)) >>= λ k. content_on T B k m.1

abbrev pub object_on : Bytes → Bytes → Rows → Option View
object_on T B q = member_on T B (single_of T q)

-- An array or object nests one deep at least.
abbrev pub within : ℕ → Option View → Option View
within deep s = cond (eqb deep 0) None s

abbrev pub node_shape : Bytes → Bytes → ℕ → Node → Option View
node_shape T B deep Null = None
node_shape T B deep False = Some (Literal Literals.False)
node_shape T B deep True = Some (Literal Literals.True)
node_shape T B deep (Integer n) = Some (Literal (Literals.Integer n))
node_shape T B deep (String s) = Some (Literal (Literals.String s))
node_shape T B deep (Array q) = within deep (Some (Apply Ops.Array q))
node_shape T B deep (Object q) = within deep (object_on T B q)

-- What a row has the shape of, with so many nestings left.
-- A table has so many rows: what lies behind them is none.
abbrev pub shape_at : Bytes → Bytes → ℕ → ℕ → Option View
shape_at T B row deep = node_shape (rows_part T) B deep (node_at (rows_part T) row)

-- What is no rule is viewed as the literal false.
abbrev pub view_of : Option View → View
view_of s = or_else s (Literal Literals.False)

abbrev pub view_at : Bytes → Bytes → ℕ → ℕ → View
view_at T B row deep = view_of (shape_at T B row deep)
