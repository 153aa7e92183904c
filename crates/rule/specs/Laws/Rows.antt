-- Rows: a table and its rows alone have the same rows, and so denote the same values.
use Rattle.std.specs.Prelude.{◌≡◌, ℕ, ◌+◌, ◌*◌, ◌/◌, ◌≤◌, ◌<◌, length}
use Rattle.std.proofs.Common.{sym, ap, subst, ◌∙◌, arith}
use Rattle.std.proofs.Math.Decide.{dec_lt}
use borrow.Author.Tests.{lt-ltb, le-ltb}
use Rattle.std.proofs.Math.Seq.{get_or-take, length-take-le}
use Rattle.area.specs.Words.{word_at}
use Rattle.model.specs.Bytes.{Bytes}
use Rattle.model.proofs.Laws.Logic.{clash}
use Rattle.model.specs.Limits.{max_values}
use Rattle.model.specs.Value.{Value, Values, Members}
use Rattle.syntax.specs.Layout.{row_bytes, entry_bytes, rows_part, table_bytes}
use Rattle.table.specs.declared.node.Node.{Node}
use Rattle.table.specs.declared.node.Node.TheVariants.{Null, Object}
use Rattle.table.specs.declared.node.Rows.{Rows}
use Rattle.table.specs.declared.row.Row.{Row}
use Rattle.table.specs.Denotes.{Denotes, denotes_null, denotes_false, denotes_true, denotes_integer, denotes_string, denotes_array, denotes_object, RowItems, no_row_items, row_item, RowMembers, no_row_members, row_member}
use Rattle.table.specs.Node.{node_at, next_row, name_at}
use Rattle.table.specs.Row.{row_at}
use Rattle.table.specs.Strings.{bytes_of}

-- The rows of U are those of T.
pub record RowsAgree (T U : Bytes) : Type 0 where
  pub nodes : (row : ℕ) → row < max_values → node_at T row ≡ node_at U row
  pub nexts : (row : ℕ) → row < max_values → next_row T row ≡ next_row U row
  pub names : (row : ℕ) → row < max_values → name_at T row ≡ name_at U row
  pub there : (row : ℕ) → row < max_values → row < length U / row_bytes

-- ---- the rows of a table
-- A table that has room for all rows.
module _ (T : Bytes) (size : max_values * row_bytes ≤ length T) where
  length_part : length (rows_part T) ≡ max_values * row_bytes
  unfolding rows_part
  length_part = length-take-le (max_values * row_bytes) T size

  module _ (row : ℕ) (l : row < max_values) where
    in_table : row < length T / row_bytes
    unfolding row_bytes
    in_table = omega (arith, size)

    in_part : row < length (rows_part T) / row_bytes
    unfolding row_bytes
    in_part = omega (arith, length_part)

    word_part : (at : ℕ) → at < row * row_bytes + row_bytes → at + 3 < row * row_bytes + row_bytes → word_at (rows_part T) at ≡ word_at T at
    unfolding rows_part word_at row_bytes
    word_part at h k =
        let n = max_values * 16 in
        rw (get_or-take n T at 0 (omega arith), get_or-take n T (at + 1) 0 (omega arith), get_or-take n T (at + 2) 0 (omega arith), get_or-take n T (at + 3) 0 (omega arith))

    row_part : row_at (rows_part T) row ≡ row_at T row
    unfolding row_at row_bytes
    row_part =
        rw (
          lt-ltb row (length (rows_part T) / 16) in_part,
          lt-ltb row (length T / 16) in_table,
          word_part (row * 16) (omega arith) (omega arith),
          word_part (row * 16 + 4) (omega arith) (omega arith),
          word_part (row * 16 + 8) (omega arith) (omega arith),
          word_part (row * 16 + 12) (omega arith) (omega arith),
        )

    pub node_part : node_at (rows_part T) row ≡ node_at T row
    unfolding node_at
    node_part = rw (lt-ltb row (length (rows_part T) / row_bytes) in_part, lt-ltb row (length T / row_bytes) in_table, row_part)

    pub next_part : next_row (rows_part T) row ≡ next_row T row
    unfolding next_row
    next_part = rw (lt-ltb row (length (rows_part T) / row_bytes) in_part, lt-ltb row (length T / row_bytes) in_table, row_part)

    pub name_part : name_at (rows_part T) row ≡ name_at T row
    name_part = ap (λ (r : Row). r.name) row_part

  -- Where an object stands is a row.
  pub row_inside : (row : ℕ) {q : Rows} → node_at (rows_part T) row ≡ Object q → row < max_values
  unfolding node_at row_bytes
  row_inside row {q} e = go (dec_lt row max_values)
    where
      null : max_values ≤ row → node_at (rows_part T) row ≡ Null
      null h = rw (le-ltb row (length (rows_part T) / 16) (omega (arith, length_part)))

      go : Dec (row < max_values) → row < max_values
      go (yes p) = p
      go (no p) = let x = sym e ∙ null (omega arith) in clash cc

  pub part_same : RowsAgree (rows_part T) T
  part_same = record { nodes = node_part; nexts = next_part; names = name_part; there = in_table }

  pub same_part : RowsAgree T (rows_part T)
  same_part = record { nodes = λ row l. sym (node_part row l); nexts = λ row l. sym (next_part row l); names = λ row l. sym (name_part row l); there = in_part }

-- Rows and room behind them.
pub table_rows : {n : ℕ} → table_bytes ≤ n → max_values * row_bytes ≤ n
unfolding row_bytes entry_bytes
table_rows h = omega arith

-- ---- the values
module _ {T U B : Bytes} (s : RowsAgree T U) where
  mutual
    pub same_denotes : {v : Value} {n : Node} → Denotes T B v n → Denotes U B v n
    same_denotes denotes_null = denotes_null
    same_denotes denotes_false = denotes_false
    same_denotes denotes_true = denotes_true
    same_denotes (denotes_integer w e) = denotes_integer w e
    same_denotes (denotes_string l) = denotes_string l
    same_denotes (denotes_array {vs = vs} e f r) = denotes_array {vs = vs} e f (same_items r)
    same_denotes (denotes_object {ms = ms} e f r) = denotes_object {ms = ms} e f (same_members r)

    same_items : {row : ℕ} {vs : Values} → RowItems T B row vs → RowItems U B row vs
    same_items (no_row_items b) = no_row_items b
    same_items (row_item {row = row} {v = v} {vs = vs} b t m r) =
        row_item b (s.there row b) (subst (Denotes U B v) (s.nodes row b) (same_denotes m)) (subst (λ (n : ℕ). RowItems U B n vs) (s.nexts row b) (same_items r))

    same_members : {row : ℕ} {ms : Members} → RowMembers T B row ms → RowMembers U B row ms
    same_members (no_row_members b) = no_row_members b
    same_members (row_member {row = row} {n = n} {v = v} {ms = ms} b t e m r) =
        row_member b (s.there row b) (e ∙ ap (bytes_of B) (s.names row b)) (subst (Denotes U B v) (s.nodes row b) (same_denotes m))
        (subst (λ (i : ℕ). RowMembers U B i ms) (s.nexts row b) (same_members r))
