-- Placed: the rows of a table lie in the order of the text: each before the next, and the parts of an array or object up to where it ends.
use Rattle.std.specs.Prelude.{◌≡◌, ℕ, zero, suc, ◌≤◌, ◌<◌}
use Rattle.model.specs.Bytes.{Bytes}
use Rattle.model.specs.Limits.{max_values}
use Rattle.table.specs.declared.node.Node.TheVariants.{Array, Object}
use Rattle.table.specs.declared.node.Rows.{Rows}
use Rattle.table.specs.Node.{node_at, next_row}

-- The row after so many values from a row on.
abbrev pub row_after : Bytes → ℕ → ℕ → ℕ
row_after T row zero = row
row_after T row (suc n) = row_after T (next_row T row) n

pub record Placed (T : Bytes) : Type 0 where
  pub on : (row : ℕ) → row < max_values → row < next_row T row
  pub within : (row : ℕ) → row < max_values → next_row T row ≤ max_values
  pub items : (row : ℕ) (q : Rows) → row < max_values → node_at T row ≡ Array q → row_after T q.first q.count ≡ next_row T row
  pub members : (row : ℕ) (q : Rows) → row < max_values → node_at T row ≡ Object q → row_after T q.first q.count ≡ next_row T row
  pub inside : (row : ℕ) (q : Rows) → row < max_values → node_at T row ≡ Array q → (k : ℕ) → k < q.count → row_after T q.first k < max_values

-- The same of members; and what begins within a value ends within it.
pub record PlacedWhole (T : Bytes) : Type 0 where
  pub placed : Placed T
  pub inside_members : (row : ℕ) (q : Rows) → row < max_values → node_at T row ≡ Object q → (k : ℕ) → k < q.count → row_after T q.first k < max_values
  pub nested : (row r : ℕ) → row < max_values → row ≤ r → r < next_row T row → next_row T r ≤ next_row T row
