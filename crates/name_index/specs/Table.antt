-- Table: a table whose objects, and arrays that have an index, are all indexed. So it is from the end of reading until the work room behind the rows is cleared.
use Rattle.std.specs.Prelude.{true, List, [], ◌∷◌, ◌≡◌, ℕ, zero, suc, ◌≤◌, ◌<◌, length}
use Rattle.model.specs.Bytes.{Bytes}
use Rattle.model.specs.Limits.{max_values}
use Rattle.syntax.specs.Layout.{table_bytes}
use Rattle.table.specs.declared.node.Node.TheVariants.{Array, Object}
use Rattle.table.specs.declared.node.Rows.{Rows}
use Rattle.table.specs.Node.{node_at, next_row, name_at}
use Rattle.table.specs.Placed.{Placed}
use Rattle.table.specs.Strings.{bytes_of}
use Rattle.name_index.specs.Contract.{Entry, Named, Between, Indexed}
use Rattle.name_index.specs.Items.{has_index, IndexedArray}

-- The members in so many rows from one on: their rows and names.
abbrev pub entries_at : Bytes → Bytes → ℕ → ℕ → List Entry
entries_at T B row zero = []
entries_at T B row (suc n) = record { row = row; name = bytes_of B (name_at T row) } ∷ entries_at T B (next_row T row) n

-- The object with these members is indexed.
pub record IndexedObject (T B : Bytes) (q : Rows) : Type 0 where
  pub indexed : Indexed T q.first (entries_at T B q.first q.count)
  pub named : Named T B (entries_at T B q.first q.count)
  pub between : Between q.first max_values (entries_at T B q.first q.count)

-- The objects' names.
pub record IndexedTable (T B : Bytes) : Type 0 where
  pub size : table_bytes ≤ length T
  pub placed : Placed T
  pub objects : (row : ℕ) (q : Rows) → row < max_values → node_at T row ≡ Object q → IndexedObject T B q

-- The arrays' items.
pub record IndexedItems (T : Bytes) : Type 0 where
  pub size : table_bytes ≤ length T
  pub placed : Placed T
  pub arrays : (row : ℕ) (q : Rows) → row < max_values → node_at T row ≡ Array q → has_index T row q ≡ true → IndexedArray T q

pub record IndexedWhole (T B : Bytes) : Type 0 where
  pub names : IndexedTable T B
  pub items : IndexedItems T
