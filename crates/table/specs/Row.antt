-- Row: the numbers of a row of a table (docs/LAYOUT.md: A row).
use Rattle.std.specs.Prelude.{cond, ℕ, ◌+◌, ◌*◌, ◌/◌, ◌%◌, ◌<◌, ltb, length}
use Rattle.area.specs.Words.{word_at}
use Rattle.model.specs.Bytes.{Bytes}
use Rattle.syntax.specs.Layout.{row_bytes}
use Rattle.table.specs.declared.row.Row.{Row}
use Rattle.table.specs.declared.row.Span.{Span}

abbrev pub span : ℕ → ℕ → Span
span start size = record { start = start; size = size }

-- The kind and above it the name's length; the name's start; two numbers by the kind.
abbrev pub numbers_at : Bytes → ℕ → Row
numbers_at T i = record {
  kind = word_at T (i * row_bytes) % 256;
  name = span (word_at T (i * row_bytes + 4)) (word_at T (i * row_bytes) / 256);
  first = word_at T (i * row_bytes + 8);
  second = word_at T (i * row_bytes + 12);
}

abbrev pub no_row : Row
no_row = record { kind = 0; name = span 0 0; first = 0; second = 0 }

-- Zeros where the table has no such row.
unfoldable pub row_at : Bytes → ℕ → Row
row_at T i = cond (ltb i (length T / row_bytes)) (numbers_at T i) no_row

-- The last two have 32 bits each: of an integer they are the low and the high half.
pub record Halves (r : Row) : Type 0 where
  pub first_small : r.first < 4294967296
  pub second_small : r.second < 4294967296

abbrev pub joined : Row → ℕ
joined r = r.first + r.second * 4294967296
