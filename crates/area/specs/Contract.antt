-- Contract: what the contracts of the public functions say, each definition in the file of its idea.
pub use Rattle.area.specs.Words.{word, word_at, zero_between, zero_from}
