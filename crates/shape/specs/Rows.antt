-- Rows: the shape check row by row, whatever the bytes of the table's rows R and of the strings B; and the marks that it leaves.
use Rattle.std.specs.Prelude.{Option, None, Some}
use Rattle.std.specs.Prelude.{Bool, true, false, ◌&&◌, cond, ℕ, zero, suc}
use Rattle.model.specs.Bytes.{Bytes}
use Rattle.model.specs.Option.{is_some}
use Rattle.model.specs.Path.{path_of}
use Rattle.table.specs.declared.node.Node.{Node}
use Rattle.table.specs.declared.node.Node.TheVariants.{Null, False, True, Integer, String, Array, Object}
use Rattle.table.specs.Node.{node_at}
use Rattle.table.specs.Strings.{bytes_of}
use Rattle.rule.specs.declared.view.View.{View}
use Rattle.rule.specs.declared.view.View.TheVariants.{Literal, Var, If, And, Reduce, Apply}
use Rattle.rule.specs.Mark.{view_mark, with_mark}
use Rattle.rule.specs.View.{object_on}

-- ---- rows at fault
-- The content of `var` must be a path.
abbrev pub view_is_rule : Bytes → View → Bool
view_is_rule B (Literal l) = true
view_is_rule B (Var p) = is_some (path_of (bytes_of B p))
view_is_rule B (If q) = true
view_is_rule B (And q) = true
view_is_rule B (Reduce q) = true
view_is_rule B (Apply op q) = true

-- An object must be an operation.
abbrev pub shape_is_rule : Bytes → Option View → Bool
shape_is_rule B None = false
shape_is_rule B (Some w) = view_is_rule B w

-- "Null is no rule." Any other scalar is a literal or a bare operand; an array holds rules or operands, which are rows of their own.
abbrev pub node_is_rule : Bytes → Bytes → Node → Bool
node_is_rule R B Null = false
node_is_rule R B False = true
node_is_rule R B True = true
node_is_rule R B (Integer n) = true
node_is_rule R B (String s) = true
node_is_rule R B (Array q) = true
node_is_rule R B (Object q) = shape_is_rule B (object_on R B q)

abbrev pub row_is_rule : Bytes → Bytes → ℕ → Bool
row_is_rule R B row = node_is_rule R B (node_at R row)

-- So many rows from one on: none is at fault.
abbrev pub rows_are_rules : Bytes → Bytes → ℕ → ℕ → Bool
rows_are_rules R B row zero = true
rows_are_rules R B row (suc n) = row_is_rule R B row && rows_are_rules R B (suc row) n

-- ---- marks
-- The table T with the mark of a row, if that is an operation.
abbrev pub mark_shape : Bytes → ℕ → Option View → Bytes
mark_shape T row None = T
mark_shape T row (Some w) = with_mark T row (view_mark w)

abbrev pub mark_node : Bytes → Bytes → Bytes → ℕ → Node → Bytes
mark_node R B T row Null = T
mark_node R B T row False = T
mark_node R B T row True = T
mark_node R B T row (Integer n) = T
mark_node R B T row (String s) = T
mark_node R B T row (Array q) = T
mark_node R B T row (Object q) = mark_shape T row (object_on R B q)

abbrev pub mark_row : Bytes → Bytes → Bytes → ℕ → Bytes
mark_row R B T row = mark_node R B T row (node_at R row)

-- And of so many rows, up to the first at fault.
abbrev pub mark_rows : Bytes → Bytes → Bytes → ℕ → ℕ → Bytes
mark_rows R B T row zero = T
mark_rows R B T row (suc n) = cond (row_is_rule R B row) (mark_rows R B (mark_row R B T row) (suc row) n) (mark_row R B T row)
