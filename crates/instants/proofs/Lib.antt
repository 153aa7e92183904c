-- Laws that the proofs of this crate cite.
pub mod Moves
pub mod Shifts
pub mod Texts
pub mod Main
pub mod Laws
