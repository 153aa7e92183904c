-- Contract: what the contracts of the public functions say, each definition in the file of its idea.
pub use Rattle.table.specs.Row.{row_at, Halves, joined}
pub use Rattle.table.specs.Node.{node_at, next_row, name_at, tail_of}
pub use Rattle.table.specs.Strings.{part, bytes_of}
