-- Contract: what the contracts of the public functions say, each definition in the file of its idea.
pub use Rattle.viewer.specs.Row.{count_of}
pub use Rattle.viewer.specs.Form.{integer_in}
pub use Rattle.viewer.specs.View.{row_seen, part_seen}
