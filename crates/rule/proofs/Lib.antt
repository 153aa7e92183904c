-- Laws for the proofs of the crate rule.
pub mod Views
