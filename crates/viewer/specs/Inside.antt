-- Inside: where a value ends, whatever the table holds.
use Rattle.std.specs.Prelude.{ℕ, ◌≤◌, ◌<◌}
use Rattle.model.specs.Bytes.{Bytes}
use Rattle.table.specs.Row.{numbers_at}
use Rattle.viewer.specs.Row.{row_count, end_of}

-- The value at a place is one of the rows, and ends within `end`.
pub record Inside (T : Bytes) (place end : ℕ) : Type 0 where
  pub there : place < row_count T
  pub ends : end_of place (numbers_at T place) ≤ end
