-- Contract: what the shape check promises.
use Rattle.std.specs.Prelude.{Bool, true, ◌≡◌, length}
use Rattle.model.specs.Bytes.{Bytes}
use Rattle.model.specs.Option.{is_some}
use Rattle.model.specs.Shape.{shape}
use Rattle.model.specs.Value.{Value}
use Rattle.syntax.specs.Layout.{rows_part}
use Rattle.table.specs.Node.{next_row}
use Rattle.table.specs.WasRead.{WasRead}
use Rattle.rule.specs.Mark.{Marked}
use Rattle.shape.specs.Rows.{rows_are_rules, mark_rows}

-- 6: "the text reads, but is not a rule". Of any bytes, by rows; and of every value that was read: whether it is a rule, and then the marks of all its objects.
pub record Checks (T B : Bytes) (r : Bool) (T' : Bytes) : Type 0 where
  pub by_rows : r ≡ rows_are_rules (rows_part T) B 0 (next_row (rows_part T) 0)
  pub marks : T' ≡ mark_rows (rows_part T) B T 0 (next_row (rows_part T) 0)
  pub size : length T' ≡ length T
  pub rows : rows_part T' ≡ rows_part T
  pub is : (v : Value) → WasRead T B v → r ≡ is_some (shape v)
  pub marked : (v : Value) → WasRead T B v → r ≡ true → Marked T' B
