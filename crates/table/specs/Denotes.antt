-- Denotes: the value that a node of a read table denotes, of any nesting.
use Rattle.std.specs.Prelude.{◌≡◌, true, false, ℕ, ◌+◌, ◌/◌, ◌≤◌, ◌<◌, ℤ, length}
use Rattle.std.proofs.Math.Dec as dec
use Rattle.model.specs.Bytes.{Bytes}
use Rattle.model.specs.Limits.{max_text_bytes, max_values}
use Rattle.model.specs.Value.{Value, scalar, array, object, null, boolean, integer, string, Values, no_items, item, Members, no_members, member, member_count, within_limits}
use Rattle.syntax.specs.Layout.{biased, item_count, row_bytes}
use Rattle.table.specs.declared.node.Node.{Node}
use Rattle.table.specs.declared.node.Node.TheVariants.{Null, False, True, Integer, String, Array, Object}
use Rattle.table.specs.declared.node.Rows.{Rows}
use Rattle.table.specs.declared.row.Span.{Span}
use Rattle.table.specs.Node.{node_at, next_row, name_at}
use Rattle.table.specs.Strings.{part, bytes_of}

-- A string's bytes lie in an area, where a read text's can.
pub record Lies (A : Bytes) (start size : ℕ) (s : Bytes) : Type 0 where
  pub is : s ≡ part A start size
  pub inside : start + size ≤ length A
  pub short : start + size ≤ max_text_bytes

-- In the table T and the strings B. Every row that a node refers to is one of the table's.
mutual
  pub data Denotes (T B : Bytes) : Value → Node → Type 0 where
    denotes_null : Denotes T B (scalar null) Null
    denotes_false : Denotes T B (scalar (boolean false)) False
    denotes_true : Denotes T B (scalar (boolean true)) True
    denotes_integer : {z : ℤ} {n : ℕ} → dec.T (within_limits z) → n ≡ biased z → Denotes T B (scalar (integer z)) (Integer n)
    denotes_string : {s : Bytes} {p : Span} → Lies B p.start p.size s → Denotes T B (scalar (string s)) (String p)
    denotes_array : {vs : Values} {q : Rows} → q.count ≡ item_count vs → q.count ≤ max_values → RowItems T B q.first vs → Denotes T B (array vs) (Array q)
    denotes_object : {ms : Members} {q : Rows} → q.count ≡ member_count ms → q.count ≤ max_values → RowMembers T B q.first ms → Denotes T B (object ms) (Object q)

  -- The items of an array, from a row on.
  pub data RowItems (T B : Bytes) : ℕ → Values → Type 0 where
    no_row_items : {row : ℕ} → row ≤ max_values → RowItems T B row no_items
    row_item : {row : ℕ} {v : Value} {vs : Values} → row < max_values → row < length T / row_bytes → Denotes T B v (node_at T row) → RowItems T B (next_row T row) vs → RowItems T B row (item v vs)

  -- The members of an object.
  pub data RowMembers (T B : Bytes) : ℕ → Members → Type 0 where
    no_row_members : {row : ℕ} → row ≤ max_values → RowMembers T B row no_members
    row_member : {row : ℕ} {n : Bytes} {v : Value} {ms : Members} → row < max_values → row < length T / row_bytes → n ≡ bytes_of B (name_at T row) → Denotes T B v (node_at T row)
        → RowMembers T B (next_row T row) ms → RowMembers T B row (member n v ms)
