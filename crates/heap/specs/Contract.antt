-- Contract: what the contracts of the public functions say, each definition in the file of its idea.
pub use Rattle.heap.specs.Handles.{span, parts, record_handle, row_handle}
pub use Rattle.heap.specs.Cells.{cell_handle, stored, span_tag, parts_tag}
pub use Rattle.heap.specs.Strings.{span_bytes}
pub use Rattle.heap.specs.Parts.{head_of, tail_of, label_of}
