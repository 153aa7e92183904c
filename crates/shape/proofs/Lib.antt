-- Laws for the proofs of the crate shape.
pub mod Loop
