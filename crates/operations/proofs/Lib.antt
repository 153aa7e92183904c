-- Laws for the proofs of the crate operations.
pub mod Block
pub mod Operations
pub mod Applied
