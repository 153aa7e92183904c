-- Laws that the proofs of this crate cite.
pub mod Instants
pub mod Main
pub mod Laws
