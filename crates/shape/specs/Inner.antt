-- Inner: what the private functions of the shape check give, on the rule's table T, which they leave as T', and strings B.
use Rattle.std.specs.Prelude.{Bool, ◌≡◌, ℕ}
use Rattle.model.specs.Bytes.{Bytes}
use Rattle.syntax.specs.Layout.{rows_part}
use Rattle.table.specs.declared.node.Rows.{Rows}
use Rattle.rule.specs.View.{object_on}
use Rattle.shape.specs.Rows.{shape_is_rule, row_is_rule, mark_shape, mark_row}

pub record ObjectChecked (T B : Bytes) (row : ℕ) (q : Rows) (r : Bool) (T' : Bytes) : Type 0 where
  pub is : r ≡ shape_is_rule B (object_on (rows_part T) B q)
  pub marks : T' ≡ mark_shape T row (object_on (rows_part T) B q)

pub record RowChecked (T B : Bytes) (row : ℕ) (r : Bool) (T' : Bytes) : Type 0 where
  pub is : r ≡ row_is_rule (rows_part T) B row
  pub marks : T' ≡ mark_row (rows_part T) B T row
