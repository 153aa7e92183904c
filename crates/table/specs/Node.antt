-- Node: the value in a row of a table, its name, and the row after it (docs/LAYOUT.md).
use Rattle.std.specs.Prelude.{Bool, true, ◌&&◌, cond, ℕ, zero, suc, ◌+◌, ◌-◌, ◌/◌, eqb, ltb, length}
use Rattle.model.specs.Bytes.{Bytes}
use Rattle.syntax.specs.Layout.{row_bytes}
use Rattle.table.specs.declared.node.Node.{Node}
use Rattle.table.specs.declared.node.Node.TheVariants.{Null, False, True, Integer, String, Array, Object}
use Rattle.table.specs.declared.node.Rows.{Rows}
use Rattle.table.specs.declared.row.Row.{Row}
use Rattle.table.specs.declared.row.Span.{Span}
use Rattle.table.specs.Row.{span, row_at, joined}

abbrev pub rows : ℕ → ℕ → Rows
rows first count = record { first = first; count = count }

-- By a row's numbers, and the row after it, where its parts begin. Kinds: 1 null, 2 false, 3 true, 4 an integer, 5 a string, 6 an array, 7 an object.
abbrev pub node_of : Row → ℕ → Node
node_of r next =
    cond (eqb r.kind 2) False
    (cond (eqb r.kind 3) True
    (cond (eqb r.kind 4) (Integer (joined r))
    (cond (eqb r.kind 5) (String (span r.first r.second))
    (cond (eqb r.kind 6) (Array (rows next r.first))
    (cond (eqb r.kind 7) (Object (rows next r.first))
    Null)))))

-- The value in a row; null where the table has no such row.
unfoldable pub node_at : Bytes → ℕ → Node
node_at T i = cond (ltb i (length T / row_bytes)) (node_of (row_at T i) (i + 1)) Null

-- The row after a value and all that it holds; the row itself where the table has no such row. (A kind from 6 on is an array's or an object's.)
unfoldable pub next_row : Bytes → ℕ → ℕ
next_row T i =
    cond (ltb i (length T / row_bytes))
    (cond (ltb (row_at T i).kind 6) (i + 1) (row_at T i).second)
    i

-- Where the name of the member in a row lies.
abbrev pub name_at : Bytes → ℕ → Span
name_at T i = (row_at T i).name

-- The values after the first.
abbrev pub tail_of : Bytes → Rows → Rows
tail_of T q = rows (next_row T q.first) (q.count - 1)

-- A test of so many values, one after the other, from a row on.
abbrev pub every_row : (ℕ → Bool) → Bytes → ℕ → ℕ → Bool
every_row f T row zero = true
every_row f T row (suc n) = f row && every_row f T (next_row T row) n
