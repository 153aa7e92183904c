-- Contract: what the contracts of the public functions say, each definition in the file of its idea.
pub use Rattle.octets.specs.Fragment.{fragment_length}
pub use Rattle.octets.specs.Names.{place_from}
