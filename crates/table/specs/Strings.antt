-- Strings: the bytes of a string or name, where they lie.
use Rattle.std.specs.Prelude.{ℕ, take, drop}
use Rattle.model.specs.Bytes.{Bytes}
use Rattle.table.specs.declared.row.Span.{Span}

-- So many bytes of an area from a place on; fewer where it ends before.
abbrev pub part : Bytes → ℕ → ℕ → Bytes
part A start size = take size (drop start A)

abbrev pub bytes_of : Bytes → Span → Bytes
bytes_of B s = part B s.start s.size
