-- Widths: places and counts of a text have room in a row, which has 32 bits for each and 24 for the length of a name.
pub use Rattle.model.proofs.Laws.Widths.{text_small, values_small}
