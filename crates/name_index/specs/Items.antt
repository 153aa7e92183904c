-- Items: the index of the items of an array. The entry of an item's row names no member, and holds in its first word the row of the
-- item twice as far from the first. So the item with a number is found by the number's binary digits: a double for each, and for each 1 the next.
use Rattle.std.specs.Prelude.{Bool, true, ◌&&◌, not, cond, ◌≡◌, ℕ, zero, suc, ◌+◌, ◌-◌, ◌≤◌, ◌<◌, eqb, leb, ltb, length}
use Rattle.std.proofs.lemmas.List.Edits.{sets}
use Rattle.area.specs.Words.{word, word_at}
use Rattle.model.specs.Bytes.{Bytes}
use Rattle.model.specs.Limits.{max_values}
use Rattle.syntax.specs.Layout.{rows_part, table_bytes}
use Rattle.table.specs.declared.node.Node.{Node}
use Rattle.table.specs.declared.node.Node.TheVariants.{Null, False, True, Integer, String, Array, Object}
use Rattle.table.specs.declared.node.Rows.{Rows}
use Rattle.table.specs.Node.{node_at, next_row}
use Rattle.table.specs.Placed.{row_after}
use Rattle.name_index.specs.Contract.{entry}
use Rattle.name_index.specs.Slots.{place}

-- ---- one item

-- A table has an entry for each row but row 0.
abbrev pub has_entry : Bytes → ℕ → Bool
has_entry T row = leb table_bytes (length T) && (ltb 0 row && leb row max_values)

-- The row of the item twice as far; 0 where there is no entry.
unfoldable pub double_at : Bytes → ℕ → ℕ
double_at T row = cond (has_entry T row) (word_at T (place (row - 1))) 0

unfoldable pub put_double : Bytes → ℕ → ℕ → Bytes
put_double T row far = cond (has_entry T row) (sets T (place (row - 1)) (word far)) T

-- ---- entering the items of an array, one after the other: two steps to the item twice as far for each to the next
unfoldable pub link_from : Bytes → ℕ → ℕ → ℕ → Bytes
link_from T row far zero = T
link_from T row far (suc zero) = put_double T row far
link_from T row far (suc (suc left)) =
    let T' = put_double T row far in
    link_from T' (next_row T' row) (next_row T' (next_row T' far)) left

-- An array of at most so many items has no index, nor one whose items are one row each: they stand one after the other.
abbrev pub few_items : ℕ
few_items = 24

unfoldable pub has_index : Bytes → ℕ → Rows → Bool
has_index T row q = ltb few_items q.count && not (eqb (next_row T row) (q.first + q.count))

-- 1 for an array, 0 for any other.
abbrev pub is_array : Node → ℕ
is_array Null = 0
is_array False = 0
is_array True = 0
is_array (Integer n) = 0
is_array (String s) = 0
is_array (Array q) = 1
is_array (Object q) = 0

abbrev pub link_node : Bytes → ℕ → Node → Bytes
link_node T row Null = T
link_node T row False = T
link_node T row True = T
link_node T row (Integer n) = T
link_node T row (String s) = T
link_node T row (Array q) = cond (has_index T row q) (link_from T q.first q.first q.count) T
link_node T row (Object q) = T

-- The arrays in so many rows from one on.
unfoldable pub link_rows : Bytes → ℕ → ℕ → Bytes
link_rows T row zero = T
link_rows T row (suc left) = link_rows (link_node T row (node_at T row)) (row + 1) left

-- All arrays of a text of so many values. In the rows of few values there is none that has an index.
unfoldable pub link_items : Bytes → ℕ → Bytes
link_items T rows = cond (leb rows (few_items + 2)) T (link_rows T 0 rows)

-- ---- finding an item
abbrev pub power : ℕ → ℕ
power zero = 1
power (suc k) = power k + power k

-- By the digits from the highest: `rest` is what the digits still to come stand for.
unfoldable pub item_from : Bytes → ℕ → ℕ → ℕ → ℕ
item_from T row rest zero = row
item_from T row rest (suc digits) =
    let far = double_at T row in
    cond (leb (power digits) rest) (item_from T (next_row T far) (rest - power digits) digits) (item_from T far rest digits)

-- max_values is 2 to this.
abbrev pub digits_of_rows : ℕ
digits_of_rows = 10

abbrev pub item_row : Bytes → ℕ → ℕ → ℕ
item_row T first at = item_from T first at digits_of_rows

-- ---- what the entries of an array's items say, and what entering them leaves

pub record IndexedArray (T : Bytes) (q : Rows) : Type 0 where
  pub doubles : (i : ℕ) → i + i < q.count → double_at T (row_after T q.first i) ≡ row_after T q.first (i + i)

-- Rows stay as they are, and so do the entries of rows that hold no item of an array.
pub record ItemsLinked (T T' : Bytes) : Type 0 where
  pub size : length T' ≡ length T
  pub rows : rows_part T' ≡ rows_part T
  pub others :
      (r : ℕ) → 1 ≤ r
      → ((row : ℕ) (q : Rows) (i : ℕ) → row < max_values → node_at T row ≡ Array q → i < q.count → r ≡ row_after T q.first i → ⊥)
      → entry T' r ≡ entry T r
  pub arrays : (row : ℕ) (q : Rows) → row < max_values → node_at T row ≡ Array q → has_index T row q ≡ true → IndexedArray T' q
