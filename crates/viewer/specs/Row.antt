-- Row: the rows of a table, how many parts each has, and where it ends (docs/LAYOUT.md: A row; its numbers are table/Row.antt: numbers_at).
use Rattle.std.specs.Prelude.{cond, ℕ, ◌+◌, ◌/◌, ltb, length}
use Rattle.model.specs.Bytes.{Bytes}
use Rattle.model.specs.Limits.{max_values}
use Rattle.syntax.specs.Layout.{row_bytes}
use Rattle.table.specs.declared.row.Row.{Row}

-- A table has as many rows as fit, and no more than a text has values.
abbrev pub row_count : Bytes → ℕ
row_count T = cond (ltb (length T / row_bytes) max_values) (length T / row_bytes) max_values

-- 01: "count (0 for a scalar)". A kind from 6 on is an array's or an object's.
abbrev pub count_of : Row → ℕ
count_of r = cond (ltb r.kind 6) 0 r.first

-- The place after a value and all that it holds.
abbrev pub end_of : ℕ → Row → ℕ
end_of place r = cond (ltb r.kind 6) (place + 1) r.second
